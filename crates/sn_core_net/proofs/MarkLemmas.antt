-- The marks of lanes.
use Rattle.std.proofs.Common.{◌≡◌, ◌≢◌, ◌<◌, ◌≤◌, ◌+◌, ◌*◌, ◌%◌, ◌^◌, ◌&&◌, ◌==◌, ℕ, zero, suc, List, [], ◌∷◌, length, take, set, get_or, position, Bool, true, false, not, cond, nat_lt, is_none, is_some, Option, None, Some, inl, inr, bit_and, bit_or, refl, ap, sym, subst, ◌∙◌, arith, w64}
use Rattle.std.specs.Int.{bit_at, bit_not, trailing_zeros}
use Rattle.std.specs.List.{position_or_len}
use Rattle.std.specs.Option.{option_map}
use Rattle.std.proofs.lemmas.Bool.{cases_eq, cases_lt, false≢true, le-ltb, lt-ltb}
use Rattle.std.proofs.lemmas.Nat.Bits.{bit_at-trailing_zeros, bit_at-zero, bit_at_above, bit_at_clear_other, bit_at_clear_same, bit_at_set_other, bit_at_set_same}
use Rattle.circular_buffer.specs.Buffer.{Buffer}
use Rattle.sn_core.specs.Needs.{needs, passes}
use Rattle.sn_core.specs.Nets.{Lane}
use Rattle.sn_core.specs.declared.event.Why.{Why}
use Rattle.sn_engine.specs.declared.intake.Intake.{Intake}
use Rattle.sn_pipe.specs.Pipes.{PipeState, item_of}
use Rattle.sn_report.specs.Items.{Frame, Item}
use Rattle.sn_core_net.specs.declared.holder.Holder.{Holder}
use Rattle.sn_core_net.specs.declared.marks.Marks.{Marks}
use Rattle.sn_core_net.specs.Holders.{took}
use Rattle.sn_core_net.specs.Marks.{AreMarkedFrom, AreMarksFrom, AreSameBelow, IsMarkedAt, IsSeen, Sees, bit_of, holds_frame, is_full, may_read, passes_at}
use Rattle.sn_core_net.specs.Rings.{appended}
use Rattle.sn_core_net.specs.States.{lane_of, lanes_of}

-- ---- a bit

module _ (word place : ℕ) (within : place < 64) where
  pub set_here : (holds : Bool) → holds ≡ true → IsMarkedAt word (bit_or word (1 * 2 ^ place % 2 ^ 64)) place holds
  set_here holds is = record {
    here = bit_at_set_same w64 word place within ∙ ap bit_of (sym is);
    others = λ n small other. bit_at_set_other w64 word place within n other;
  }

  pub cleared_here : (holds : Bool) → holds ≡ false → IsMarkedAt word (bit_and word (bit_not w64 (1 * 2 ^ place % 2 ^ 64))) place holds
  cleared_here holds is = record {
    here = bit_at_clear_same w64 word place within ∙ ap bit_of (sym is);
    others = λ n small other. bit_at_clear_other w64 word place within n small other;
  }

bit_holds : (b : Bool) → bit_of b ≡ 1 → b ≡ true
bit_holds true e = refl
bit_holds false e = absurd (omega (arith, e))

bit_fails : (b : Bool) → bit_of b ≡ 0 → b ≡ false
bit_fails true e = absurd (omega (arith, e))
bit_fails false e = refl

-- ---- the element of a number

module _ {X : Type 0} (test : X → Bool) where
  past_fails : (xs : List X) (n : ℕ) → length xs ≤ n → passes_at test xs n ≡ false
  past_fails [] n past = refl
  past_fails (x ∷ xs) zero past = absurd (omega (arith, past))
  past_fails (x ∷ xs) (suc n) past = past_fails xs n (omega (arith, past))

  passes_within : (xs : List X) (n : ℕ) → passes_at test xs n ≡ true → n < length xs
  passes_within [] n is = absurd (false≢true is)
  passes_within (x ∷ xs) zero is = omega arith
  passes_within (x ∷ xs) (suc n) is = let less = passes_within xs n is in omega (arith, less)

  set_passes : (xs : List X) (n : ℕ) (x : X) → n < length xs → passes_at test (set xs n x) n ≡ test x
  set_passes [] n x within = absurd (omega (arith, within))
  set_passes (y ∷ xs) zero x within = refl
  set_passes (y ∷ xs) (suc n) x within = set_passes xs n x (omega (arith, within))

  set_others : (xs : List X) (n k : ℕ) (x : X) → k ≢ n → passes_at test (set xs n x) k ≡ passes_at test xs k
  set_others [] n k x apart = refl
  set_others (y ∷ xs) zero zero x apart = absurd (apart refl)
  set_others (y ∷ xs) zero (suc k) x apart = refl
  set_others (y ∷ xs) (suc n) zero x apart = refl
  set_others (y ∷ xs) (suc n) (suc k) x apart = set_others xs n k x (λ e. apart (ap suc e))

  take_passes : (xs : List X) (n : ℕ) (x : X) → n < length xs → x ≡ get_or xs n x → passes_at test (take (suc n) xs) n ≡ test x
  take_passes [] n x within at = absurd (omega (arith, within))
  take_passes (y ∷ xs) zero x within at = ap test (sym at)
  take_passes (y ∷ xs) (suc n) x within at = take_passes xs n x (omega (arith, within)) at

  take_others : (xs : List X) (n k : ℕ) → k ≢ n → passes_at test (take (suc n) xs) k ≡ passes_at test (take n xs) k
  take_others [] zero k apart = refl
  take_others [] (suc n) k apart = refl
  take_others (y ∷ xs) zero zero apart = absurd (apart refl)
  take_others (y ∷ xs) zero (suc k) apart = refl
  take_others (y ∷ xs) (suc n) zero apart = refl
  take_others (y ∷ xs) (suc n) (suc k) apart = take_others xs n k (λ e. apart (ap suc e))

  -- ---- one more is marked

  none_marked : AreMarkedFrom test 0 0 []
  none_marked n k e small = bit_at-zero n

  one_marked : (word new n : ℕ) (xs ys : List X) (holds : Bool) → n < 64 → AreMarkedFrom test 0 word xs → IsMarkedAt word new n holds → passes_at test ys n ≡ holds → ((k : ℕ) → k ≢ n → passes_at test ys k ≡ passes_at test xs k) →
      AreMarkedFrom test 0 new ys
  one_marked word new n xs ys holds few are at here others m k e small =
      let same : m ≡ k = omega (arith, e) in
      elim (cases_eq k n) [
        | inl is ↦ ap (bit_at new) (same ∙ is) ∙ at.here ∙ ap bit_of (sym (ap (passes_at test ys) is ∙ here))
        | inr apart ↦ at.others m small (λ is. apart (sym same ∙ is)) ∙ are m k e small ∙ ap bit_of (sym (others k apart))
      ]

  marked_set : (word new n : ℕ) (xs : List X) (x : X) → n < length xs → n < 64 → AreMarkedFrom test 0 word xs → IsMarkedAt word new n (test x) → AreMarkedFrom test 0 new (set xs n x)
  marked_set word new n xs x within few are at = one_marked word new n xs (set xs n x) (test x) few are at (set_passes xs n x within) (λ k apart. set_others xs n k x apart)

  marked_more : (word new n : ℕ) (xs : List X) (x : X) → n < length xs → n < 64 → x ≡ get_or xs n x → AreMarkedFrom test 0 word (take n xs) → IsMarkedAt word new n (test x) → AreMarkedFrom test 0 new (take (n + 1) xs)
  marked_more word new n xs x within few own are at =
      let next : suc n ≡ n + 1 = omega arith in
      subst (λ (m : ℕ). AreMarkedFrom test 0 new (take m xs)) next
      (one_marked word new n (take n xs) (take (suc n) xs) (test x) few are at (take_passes xs n x within own) (λ k apart. take_others xs n k apart))

  -- ---- the first of several, and the rest

  first_marked : (first word : ℕ) (x : X) (xs : List X) → first < 64 → AreMarkedFrom test first word (x ∷ xs) → bit_at word first ≡ bit_of (test x)
  first_marked first word x xs few are = are first zero (omega arith) few

  rest_marked : (first word new : ℕ) (x : X) (xs : List X) (holds : Bool) → AreMarkedFrom test first word (x ∷ xs) → IsMarkedAt word new first holds → AreMarkedFrom test (first + 1) new xs
  rest_marked first word new x xs holds are at n k e small = at.others n small (λ is. omega (arith, e, is)) ∙ are n (suc k) (omega (arith, e)) small

  both_marked : (first word new : ℕ) (x : X) (xs : List X) → bit_at word first ≡ bit_of (test x) → bit_at new first ≡ bit_at word first → AreMarkedFrom test (first + 1) new xs → AreMarkedFrom test first new (x ∷ xs)
  both_marked first word new x xs here kept are n zero e small = let at : n ≡ first = omega (arith, e) in ap (bit_at new) at ∙ kept ∙ here
  both_marked first word new x xs here kept are n (suc k) e small = are n k (omega (arith, e)) small

  -- ---- the least that passes

  least_len : (xs : List X) (n : ℕ) → passes_at test xs n ≡ true → ((k : ℕ) → k < n → passes_at test xs k ≡ false) → position_or_len test xs ≡ n
  least_len [] n is none = absurd (false≢true is)
  least_len (x ∷ xs) zero is none = ap (λ b. cond (not b) (1 + position_or_len test xs) 0) is
  least_len (x ∷ xs) (suc n) is none =
      let next : 1 + n ≡ suc n = omega arith in
      ap (λ b. cond (not b) (1 + position_or_len test xs) 0) (none zero (omega arith)) ∙ ap (λ m. 1 + m) (least_len xs n is (λ k less. none (suc k) (omega (arith, less)))) ∙ next

  pub least_at : (xs : List X) (n : ℕ) → passes_at test xs n ≡ true → ((k : ℕ) → k < n → passes_at test xs k ≡ false) → position test xs ≡ Some n
  least_at xs n is none =
      ap (λ m. cond (nat_lt m (length xs)) (Some m) None) (least_len xs n is none) ∙ ap (λ b. cond b (Some n) None) (lt-ltb n (length xs) (passes_within xs n is))

  none_len : (xs : List X) → ((k : ℕ) → passes_at test xs k ≡ false) → position_or_len test xs ≡ length xs
  none_len [] none = refl
  none_len (x ∷ xs) none =
      let next : 1 + length xs ≡ suc (length xs) = omega arith in
      ap (λ b. cond (not b) (1 + position_or_len test xs) 0) (none zero) ∙ ap (λ m. 1 + m) (none_len xs (λ k. none (suc k))) ∙ next

  pub none_at : (xs : List X) → ((k : ℕ) → passes_at test xs k ≡ false) → position test xs ≡ None
  none_at xs none =
      ap (λ m. cond (nat_lt m (length xs)) (Some m) None) (none_len xs none) ∙ ap (λ b. cond b (Some (length xs)) None) (le-ltb (length xs) (length xs) (omega arith))

  -- what a word says of at most 64
  module _ (word : ℕ) (xs : List X) (few : length xs ≤ 64) (are : AreMarkedFrom test 0 word xs) where
    pub marks_tell : word < 2 ^ 64 → (n : ℕ) → bit_at word n ≡ bit_of (passes_at test xs n)
    marks_tell whole n = elim (cases_lt n 64) [
      | inl small ↦ are n n (omega arith) small
      | inr large ↦ bit_at_above word 64 n whole large ∙ ap bit_of (sym (past_fails xs n (omega (arith, few, large))))
    ]

    pub no_mark : word ≡ 0 → position test xs ≡ None
    no_mark none = none_at xs (λ k. elim (cases_lt k 64) [
      | inl small ↦ bit_fails (passes_at test xs k) (sym (are k k (omega arith) small) ∙ ap (λ w. bit_at w k) none ∙ bit_at-zero k)
      | inr large ↦ past_fails xs k (omega (arith, few, large))
    ])

    pub lowest_mark : word < 2 ^ 64 → 0 < word → position test xs ≡ Some (trailing_zeros w64 word)
    lowest_mark whole some =
        let t : ℕ = trailing_zeros w64 word in
        let lowest = bit_at-trailing_zeros w64 word some whole in
        let small : t < 64 = lowest.0 in
        least_at xs t (bit_holds (passes_at test xs t) (sym (are t t (omega arith) small) ∙ lowest.1))
        (λ k less. bit_fails (passes_at test xs k) (sym (are k k (omega arith) (omega (arith, less, small))) ∙ lowest.2 k less))

-- ---- lanes

-- no lane
pub marks_none : (room : ℕ) → AreMarksFrom 0 room [] (record { holding = 0; full = 0; readable = 0 })
marks_none room = record { holding = none_marked holds_frame; full = none_marked (is_full room); readable = none_marked (may_read room) }

module _ (room n : ℕ) (hs : List Holder) (h : Holder) (old new : Marks) (within : n < length hs) (few : n < 64) (sees : Sees n room h old new) where
  -- one more lane
  pub marks_more : h ≡ get_or hs n h → AreMarksFrom 0 room (take n hs) old → AreMarksFrom 0 room (take (n + 1) hs) new
  marks_more own are = record {
    holding = marked_more holds_frame old.holding new.holding n hs h within few own are.holding sees.holding;
    full = marked_more (is_full room) old.full new.full n hs h within few own are.full sees.full;
    readable = marked_more (may_read room) old.readable new.readable n hs h within few own are.readable sees.readable;
  }

  -- a lane that has changed
  pub marks_set : AreMarksFrom 0 room hs old → AreMarksFrom 0 room (set hs n h) new
  marks_set are = record {
    holding = marked_set holds_frame old.holding new.holding n hs h within few are.holding sees.holding;
    full = marked_set (is_full room) old.full new.full n hs h within few are.full sees.full;
    readable = marked_set (may_read room) old.readable new.readable n hs h within few are.readable sees.readable;
  }

-- a lane, and those after it
module _ (first room : ℕ) (h next : Holder) (hs : List Holder) (old mid : Marks) (few : first < 64) (are : AreMarksFrom first room (h ∷ hs) old) where
  pub is_seen : IsSeen first room h old
  is_seen = record {
    holding = first_marked holds_frame first old.holding h hs few are.holding;
    full = first_marked (is_full room) first old.full h hs few are.full;
    readable = first_marked (may_read room) first old.readable h hs few are.readable;
  }

  module _ (sees : Sees first room next old mid) where
    pub marks_rest : AreMarksFrom (first + 1) room hs mid
    marks_rest = record {
      holding = rest_marked holds_frame first old.holding mid.holding h hs (holds_frame next) are.holding sees.holding;
      full = rest_marked (is_full room) first old.full mid.full h hs (is_full room next) are.full sees.full;
      readable = rest_marked (may_read room) first old.readable mid.readable h hs (may_read room next) are.readable sees.readable;
    }

    module _ (new : Marks) (kept : AreSameBelow (first + 1) mid new) where
      pub marks_both : (news : List Holder) → AreMarksFrom (first + 1) room news new → AreMarksFrom first room (next ∷ news) new
      marks_both news after = record {
        holding = both_marked holds_frame first mid.holding new.holding next news sees.holding.here (kept.holding first (omega arith)) after.holding;
        full = both_marked (is_full room) first mid.full new.full next news sees.full.here (kept.full first (omega arith)) after.full;
        readable = both_marked (may_read room) first mid.readable new.readable next news sees.readable.here (kept.readable first (omega arith)) after.readable;
      }

      pub same_below : AreSameBelow first old new
      same_below = record {
        holding = λ n less. kept.holding n (omega (arith, less)) ∙ sees.holding.others n (omega (arith, less, few)) (λ e. omega (arith, less, e));
        full = λ n less. kept.full n (omega (arith, less)) ∙ sees.full.others n (omega (arith, less, few)) (λ e. omega (arith, less, e));
        readable = λ n less. kept.readable n (omega (arith, less)) ∙ sees.readable.others n (omega (arith, less, few)) (λ e. omega (arith, less, e));
      }

pub nothing_below : (first : ℕ) (marks : Marks) → AreSameBelow first marks marks
nothing_below first marks = record { holding = λ n less. refl; full = λ n less. refl; readable = λ n less. refl }

-- ---- a lane that gives no frame

same_ring : (make : Item → Frame) (ring : Buffer Frame) (o : Option Item) → is_some o ≡ false → appended ring (option_map make o) ≡ ring
same_ring make ring None e = refl
same_ring make ring (Some item) e = absurd (false≢true (sym e))

still_marked : (word place : ℕ) (before after : Bool) → after ≡ before → bit_at word place ≡ bit_of before → IsMarkedAt word word place after
still_marked word place before after same is = record { here = is ∙ ap bit_of (sym same); others = λ n small other. refl }

pub nothing_given : (place room : ℕ) (h : Holder) (tuple : List ℕ) (marks : Marks) → (ring : (took tuple h).ring ≡ h.ring) → IsSeen place room h marks → Sees place room (took tuple h) marks marks
nothing_given place room h tuple marks ring seen = record {
  holding = still_marked marks.holding place (holds_frame h) (holds_frame (took tuple h)) (ap (λ (b : Buffer Frame). not (length b.items == 0)) ring) seen.holding;
  full = still_marked marks.full place (is_full room h) (is_full room (took tuple h)) (ap (λ (b : Buffer Frame). not (nat_lt (length b.items) room)) ring) seen.full;
  readable = still_marked marks.readable place (may_read room h) (may_read room (took tuple h)) (ap (λ (b : Buffer Frame). not h.sender.ended && nat_lt (length b.items) room) ring) seen.readable;
}

pub ring_kept : (h : Holder) (tuple : List ℕ) → is_some (item_of h.sender.pipe tuple) ≡ false → (took tuple h).ring ≡ h.ring
ring_kept h tuple none = same_ring _ h.ring (item_of h.sender.pipe tuple) none

-- ---- tests of lanes by their marks

pub passes_same : (test : Holder → Bool) (both : Lane PipeState Item → Bool) → ((h : Holder) (x : Intake) → both (lane_of h x) ≡ test h) → (hs : List Holder) (xs : List Intake) (n : ℕ) → length hs ≡ length xs → passes both (lanes_of hs xs) n ≡ passes_at test hs n
passes_same test both same [] xs n e = refl
passes_same test both same (h ∷ hs) [] n e = absurd (omega (arith, e))
passes_same test both same (h ∷ hs) (x ∷ xs) zero e = same h x
passes_same test both same (h ∷ hs) (x ∷ xs) (suc n) e = passes_same test both same hs xs n (omega (arith, e))

pub passes_both : (f g : Holder → Bool) (hs : List Holder) (n : ℕ) → passes_at (λ h. f h && g h) hs n ≡ (passes_at f hs n && passes_at g hs n)
passes_both f g [] n = refl
passes_both f g (h ∷ hs) zero = refl
passes_both f g (h ∷ hs) (suc n) = passes_both f g hs n

pub one_need : (b : Bool) (why : Why) → is_none (needs b why None) ≡ b
one_need true why = refl
one_need false why = refl

pub two_needs : (a b : Bool) (why other : Why) → is_none (needs a why (needs b other None)) ≡ (a && b)
two_needs true b why other = one_need b other
two_needs false b why other = refl
