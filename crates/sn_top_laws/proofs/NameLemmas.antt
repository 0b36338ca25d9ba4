-- The lanes of a plan by their names, and the frames of one among those of all.
use Rattle.std.proofs.Common.{◌≡◌, ℕ, List, [], ◌∷◌, ◌++◌, ◌&&◌, ◌==◌, map, Bool, true, false, cond, refl, ap, sym, ◌∙◌, subst, append_assoc, append-nil}
use Rattle.std.specs.List.{AllByRecursion, flat_map, list_any}
use Rattle.std.proofs.lemmas.Bool.{false≢true}
use Rattle.std.proofs.lemmas.List.{map-append}
use Rattle.std.proofs.lemmas.List.Elements.{filter-append}
use Rattle.sn_base.specs.declared.lane.Lane.{Lane}
use Rattle.sn_base.proofs.Lists.{all_append, all_map, all_weaker, by_test, nat_same, nat_self, not_true, or_left, or_right}
use Rattle.sn_engine_lockstep.specs.Work.{AreApart, intake_of, name_of}
use Rattle.sn_engine_lockstep.proofs.Changes.{own_name}
use Rattle.sn_emit.specs.Plans.{Placed}
use Rattle.sn_engine.specs.declared.intake.Intake.{Intake}
use Rattle.sn_engine.specs.Intakes.{is_lane}
use Rattle.sn_command_finish.specs.Whole.{HaveNames, frames_of, name_of as lane_name}
use Rattle.sn_report.specs.Items.{Frame}
use Rattle.sn_report.specs.Frames.{lane_of as lane_in}

-- ---- names

eq_turned : (m n : ℕ) → (m == n) ≡ (n == m)
eq_turned m n =
    by_test (m == n)
    (λ is. is ∙ sym (subst (λ k. (k == m) ≡ true) (nat_same m n is) (nat_self m)))
    (λ isnt. isnt ∙ sym (not_true (n == m) (λ is. false≢true (sym isnt ∙ subst (λ k. (k == n) ≡ true) (nat_same n m is) (nat_self n)))))

named_turned : (x y : Placed) → is_lane (name_of y) (intake_of x) ≡ is_lane (name_of x) (intake_of y)
named_turned x y =
    ap (λ b. b && ((name_of y).level == (name_of x).level) && (y.piece.branch == x.piece.branch)) (eq_turned y.query x.query)
    ∙ ap (λ b. (x.query == y.query) && b && (y.piece.branch == x.piece.branch)) (eq_turned (name_of y).level (name_of x).level)
    ∙ ap (λ b. (x.query == y.query) && ((name_of x).level == (name_of y).level) && b) (eq_turned y.piece.branch x.piece.branch)

abbrev pub IsOther : Placed → Placed → Type 0
IsOther x y = is_lane (name_of y) (intake_of x) ≡ false

pub have_names : (xs : List Placed) → AreApart xs → HaveNames (map intake_of xs)
have_names [] apart = tt
have_names (x ∷ xs) apart = (
  all_map (λ l. is_lane (lane_name (intake_of x)) l ≡ false) intake_of xs
      (all_weaker (IsOther x) (λ y. is_lane (lane_name (intake_of x)) (intake_of y) ≡ false) (λ y e. sym (named_turned x y) ∙ e) xs apart.0),
  have_names xs apart.1,
)

-- ---- one of a list, among the others

each_from : {X : Type 0} (P : X → Type 0) (before xs : List X) → ((b : List X) (x : X) (a : List X) → b ++ x ∷ a ≡ before ++ xs → P x) → AllByRecursion P xs
each_from P before [] h = tt
each_from P before (x ∷ xs) h = (h before x xs refl, each_from P (before ++ x ∷ []) xs (λ b y a e. h b y a (e ∙ append_assoc before (x ∷ []) xs)))

pub each_among : {X : Type 0} (P : X → Type 0) (xs : List X) → ((b : List X) (x : X) (a : List X) → b ++ x ∷ a ≡ xs → P x) → AllByRecursion P xs
each_among P xs h = each_from P [] xs h

pub all_at : {X : Type 0} (P : X → Type 0) (b : List X) (x : X) (a : List X) → AllByRecursion P (b ++ x ∷ a) → P x
all_at P [] x a h = h.0
all_at P (y ∷ b) x a h = all_at P b x a h.1

pub any_at : {X : Type 0} (t : X → Bool) (b : List X) (x : X) (a : List X) → t x ≡ true → list_any t (b ++ x ∷ a) ≡ true
any_at t [] x a is = or_left (t x) (list_any t a) is
any_at t (y ∷ b) x a is = or_right (t y) (list_any t (b ++ x ∷ a)) (any_at t b x a is)

pub record AreAround (x : Placed) (b a : List Placed) : Type 0 where
  pub before : AllByRecursion (IsOther x) b
  pub after : AllByRecursion (IsOther x) a

pub apart_around : (b : List Placed) (x : Placed) (a : List Placed) → AreApart (b ++ x ∷ a) → AreAround x b a
apart_around [] x a apart = record { before = tt; after = apart.0 }
apart_around (y ∷ b) x a apart =
    let rest = apart_around b x a apart.1 in
    record { before = (sym (named_turned y x) ∙ all_at (IsOther y) b x a apart.0, rest.before); after = rest.after }

-- each piece has a lane of its name
pub known_names : (xs : List Placed) → AllByRecursion (λ (x : Placed). list_any (is_lane (name_of x)) (map intake_of xs) ≡ true) xs
known_names xs =
    each_among (λ (x : Placed). list_any (is_lane (name_of x)) (map intake_of xs) ≡ true) xs
    (λ b x a e. ap (λ ys. list_any (is_lane (name_of x)) (map intake_of ys)) (sym e)
    ∙ ap (list_any (is_lane (name_of x))) (map-append intake_of b (x ∷ a)) ∙ any_at (is_lane (name_of x)) (map intake_of b) (intake_of x) (map intake_of a) (own_name x))

-- ---- the frames of one lane

abbrev pub AreOf : Lane → List Frame → Type 0
AreOf n frames = AllByRecursion (λ f. lane_in f ≡ n) frames

keep_own : (l : Intake) (n : Lane) (fs : List Frame) → is_lane n l ≡ true → AreOf n fs → frames_of l fs ≡ fs
keep_own l n [] is own = refl
keep_own l n (f ∷ fs) is own =
    ap (λ b. cond b (f ∷ frames_of l fs) (frames_of l fs)) (ap (λ m. is_lane m l) own.0 ∙ is) ∙ ap (λ gs. f ∷ gs) (keep_own l n fs is own.1)

drop_other : (l : Intake) (n : Lane) (fs : List Frame) → is_lane n l ≡ false → AreOf n fs → frames_of l fs ≡ []
drop_other l n [] isnt own = refl
drop_other l n (f ∷ fs) isnt own =
    ap (λ b. cond b (f ∷ frames_of l fs) (frames_of l fs)) (ap (λ m. is_lane m l) own.0 ∙ isnt) ∙ drop_other l n fs isnt own.1

pub frames_both : (l : Intake) (fs gs : List Frame) → frames_of l (fs ++ gs) ≡ frames_of l fs ++ frames_of l gs
frames_both l fs gs = filter-append (λ f. is_lane (lane_in f) l) fs gs

pub frames_flat : {X : Type 0} (l : Intake) (g : X → List Frame) (xs : List X) → frames_of l (flat_map g xs) ≡ flat_map (λ x. frames_of l (g x)) xs
frames_flat l g [] = refl
frames_flat l g (x ∷ xs) = frames_both l (g x) (flat_map g xs) ∙ ap (λ fs. frames_of l (g x) ++ fs) (frames_flat l g xs)

module _ (g : Placed → List Frame) (own : (y : Placed) → AreOf (name_of y) (g y)) where
  drop_all : (x : Placed) (ys : List Placed) → AllByRecursion (IsOther x) ys → frames_of (intake_of x) (flat_map g ys) ≡ []
  drop_all x [] others = refl
  drop_all x (y ∷ ys) others =
      frames_both (intake_of x) (g y) (flat_map g ys)
      ∙ ap (λ fs. fs ++ frames_of (intake_of x) (flat_map g ys)) (drop_other (intake_of x) (name_of y) (g y) others.0 (own y))
      ∙ drop_all x ys others.1

  keep_one : (x : Placed) (b a : List Placed) → AllByRecursion (IsOther x) b → AllByRecursion (IsOther x) a → frames_of (intake_of x) (flat_map g (b ++ x ∷ a)) ≡ g x
  keep_one x [] a before after =
      frames_both (intake_of x) (g x) (flat_map g a)
      ∙ ap (λ fs. fs ++ frames_of (intake_of x) (flat_map g a)) (keep_own (intake_of x) (name_of x) (g x) (own_name x) (own x))
      ∙ ap (λ fs. g x ++ fs) (drop_all x a after) ∙ append-nil (g x)
  keep_one x (y ∷ b) a before after =
      frames_both (intake_of x) (g y) (flat_map g (b ++ x ∷ a))
      ∙ ap (λ fs. fs ++ frames_of (intake_of x) (flat_map g (b ++ x ∷ a))) (drop_other (intake_of x) (name_of y) (g y) before.0 (own y))
      ∙ keep_one x b a before.1 after

  -- among the frames of all lanes stand those of one
  pub lane_among : (xs : List Placed) (x : Placed) (b a : List Placed) → b ++ x ∷ a ≡ xs → AreApart xs → frames_of (intake_of x) (flat_map g xs) ≡ g x
  lane_among xs x b a e apart =
      let around : AreAround x b a = apart_around b x a (subst AreApart (sym e) apart) in
      ap (λ ys. frames_of (intake_of x) (flat_map g ys)) (sym e) ∙ keep_one x b a around.before around.after

-- what holds of the frames of each holds of those of all
pub all_flat : {X : Type 0} (P : Frame → Type 0) (g : X → List Frame) (xs : List X) → AllByRecursion (λ x. AllByRecursion P (g x)) xs → AllByRecursion P (flat_map g xs)
all_flat P g [] h = tt
all_flat P g (x ∷ xs) h = all_append P (g x) (flat_map g xs) h.0 (all_flat P g xs h.1)
