-- The rules of the plan text keep the laws.
use Rattle.std.proofs.Common.{◌≡◌, ℕ, ◌≤◌, Bool, true, false, cond, List, [], ◌∷◌, ◌++◌, Option, Some, None, refl, sym, ap, ◌∙◌, arith}
use Rattle.std.specs.Prelude.{codes, not}
use Rattle.std.specs.Cmp.Lexicographic.{same_text}
use Rattle.sn_text_rules.specs.declared.Flaw.TheVariants.{Expected}
use Rattle.sn_text_rules.specs.Tokens.{Lexeme, word, number, symbol, finish, bad, Tok, Mark, plain, Spelled}
use Rattle.sn_text_rules.specs.Rules.{aside, maybe}
use Rattle.sn_text_rules.specs.Words.{same, is_word, is_symbol, keyword, sign, number_in, full, ◌▸◌}
use Rattle.sn_text_rules.proofs.Common.{Heads, bearers, bearers_spelled, both_made}
use Rattle.sn_text_rules.proofs.Laws.{Good, pair_good, free_pair, headed_pair}
use Rattle.sn_text_rules.proofs.Choices.{Undoes, embedded_good, renamed_good, maybe_good}
use Rattle.sn_text_rules.proofs.Series.{Alike, many_good, series_good}
use Rattle.sn_text_rules.proofs.Words.{Stands_for, leaf_good, word_by_good, number_in_good, word_mark, symbol_mark, same_self, before_sign, after_word, after_sign}
use Rattle.sn_text_rules.proofs.Lists.{always_alike}
use Rattle.sn_plan_grammar.specs.declared.plan.Entry.{Entry}
use Rattle.sn_plan_grammar.specs.declared.plan.Piece.{Piece}
use Rattle.sn_plan_grammar.specs.Grammar.{name_test, name, numbers, Sizes, to_sizes, with_sizes, from_sizes, both_rule, sizes_rule, to_piece, from_piece, piece_rule, to_entry, from_entry, pieces_rule, entry_rule, to_plan, from_plan, entries_rule, plan_rule, end_face, cost_in, end_in, any_end, end_rule, file_rule}

-- ---- tokens

pub name_good : Good name
name_good = word_by_good name_test (codes "a", refl)

more_good : (low high : ℕ) → low ≤ high → Good (sign 3 ▸ number_in low high)
more_good low high le = after_sign 3 (number_in_good low high le)

pub numbers_alike : (limit low high : ℕ) → low ≤ high → Alike (is_symbol 3) (full limit Expected) (λ (seen : List ℕ). sign 3 ▸ number_in low high)
numbers_alike limit low high le = always_alike (is_symbol 3) limit Expected (more_good low high le) (λ t us e. refl) (λ a f. refl) (λ t e.
    let b = (number_in_good low high le).some in
    (b.0, bearers ((number_in low high).spell b.0), (tt, b.1), (((symbol_mark 3).only t.face e, tt), bearers_spelled ((number_in low high).spell b.0))))

pub numbers_good : (limit low high : ℕ) → low ≤ high → Good (numbers limit low high)
unfolding numbers
numbers_good limit low high le = series_good (numbers_alike limit low high le) (record { good = number_in_good low high le; marked = λ t us e. refl; bares = λ a. refl })

-- what may stand after numbers: no comma
pub numbers_end : (limit low high : ℕ) (t : Tok) (us : List Tok) → is_symbol 3 t.face ≡ false → (numbers limit low high).follow (t ∷ us) ≡ true
unfolding numbers
numbers_end limit low high t us e = rw e refl

numbers_some : (limit low high : ℕ) → (numbers limit low high).fits aside [] → ⊥
unfolding numbers
numbers_some limit low high f = f

-- ---- pieces

stages_part : Good (keyword (codes "stages") ▸ numbers 8 0 31)
stages_part = after_word (codes "stages") (numbers_good 8 0 31 (omega arith))

no_comma : (text : List ℕ) (x : Lexeme) → is_word text x ≡ true → is_symbol 3 x ≡ false
no_comma text (word w) e = refl
no_comma text (number n) e = refl
no_comma text (symbol k) e = absurd cc
no_comma text finish e = refl
no_comma text bad e = refl

pub both_good : Good both_rule
unfolding both_rule
both_good = after_word (codes "slots")
    (headed_pair (is_word (codes "stages")) (numbers_good 2 1 65536 (omega arith)) stages_part (λ b f. same_self (codes "stages")) (λ t us e. numbers_end 2 1 65536 t us (no_comma (codes "stages") t.face e)))

both_some : (ss ts : List ℕ) → both_rule.fits aside (ss, ts) → with_sizes ss ts ≡ Some (Some (ss, ts))
unfolding both_rule
both_some [] ts f = absurd (numbers_some 2 1 65536 f.1.0)
both_some (s ∷ ss) [] f = absurd (numbers_some 8 0 31 f.1.1.1)
both_some (s ∷ ss) (t ∷ ts) f = refl

pub sizes_undone : Undoes to_sizes from_sizes (maybe (is_word (codes "slots")) both_rule)
sizes_undone = record { back = back; forth = λ b a e. forth b.0 b.1 a e }
  where
    back : (a : Option Sizes) → (maybe (is_word (codes "slots")) both_rule).fits aside a → from_sizes (to_sizes a) ≡ Some a
    back None f = refl
    back (Some x) f = both_some x.0 x.1 f

    forth : (ss ts : List ℕ) (a : Option Sizes) → with_sizes ss ts ≡ Some a → to_sizes a ≡ (ss, ts)
    forth [] [] a e = let h : None ≡ a = cc in ap to_sizes (sym h)
    forth [] (t ∷ ts) a e = absurd cc
    forth (s ∷ ss) [] a e = absurd cc
    forth (s ∷ ss) (t ∷ ts) a e = let h : Some (s ∷ ss, t ∷ ts) ≡ a = cc in ap to_sizes (sym h)

pub both_starts : (a : Sizes) → Heads (is_word (codes "slots")) (both_rule.spell a)
unfolding both_rule
both_starts a = same_self (codes "slots")

both_end : (t : Tok) (us : List Tok) → is_symbol 3 t.face ≡ false → both_rule.follow (t ∷ us) ≡ true
unfolding both_rule
both_end t us e = numbers_end 8 0 31 t us e

pub sizes_good : Good sizes_rule
unfolding sizes_rule
sizes_good = embedded_good to_sizes from_sizes sizes_undone (maybe_good (is_word (codes "slots")) both_good (record { heads = λ a f. both_starts a }))

pub sizes_end : (t : Tok) (us : List Tok) → t.face ≡ symbol 2 → sizes_rule.follow (t ∷ us) ≡ true
unfolding sizes_rule
sizes_end t us e = ends (not (is_word (codes "slots") t.face)) (both_rule.follow (t ∷ us)) (ap (λ (x : Lexeme). not (is_word (codes "slots") x)) e) (both_end t us (ap (is_symbol 3) e))
  where
    ends : (a b : Bool) → a ≡ true → b ≡ true → cond a b false ≡ true
    ends a b e f = rw (e, f) refl

pub piece_good : Good piece_rule
unfolding piece_rule
piece_good =
    let a = free_pair (number_in_good 0 12 (omega arith)) (before_sign 2 sizes_good sizes_end) (λ us. refl) in
    let b = after_word (codes "cut") a in
    let d = free_pair (number_in_good 0 1 (omega arith)) b (λ us. refl) in
    let e = free_pair (number_in_good 0 128 (omega arith)) d (λ us. refl) in
    renamed_good to_piece from_piece (λ a. refl) (λ b. refl)
    (after_word (codes "piece") e)

piece_free : (us : List Tok) → piece_rule.follow us ≡ true
unfolding piece_rule
piece_free us = refl

piece_heads : (a : Piece) → Heads (is_word (codes "piece")) (piece_rule.spell a)
unfolding piece_rule
piece_heads a = same_self (codes "piece")

tail_of : List Mark → List Mark
tail_of [] = []
tail_of (m ∷ ms) = ms

piece_opens : (t : Tok) → is_word (codes "piece") t.face ≡ true → (a : Piece) × (more : List Tok) × piece_rule.fits aside a × Spelled (t ∷ more) (piece_rule.spell a)
unfolding piece_rule tail_of
piece_opens t e =
    let a = piece_good.some in
    (a.0, bearers (tail_of (piece_rule.spell a.0)), a.1, (((word_mark (codes "piece")).only t.face e, tt), bearers_spelled (tail_of (piece_rule.spell a.0))))

-- ---- entries

pub pieces_alike : Alike (is_word (codes "piece")) (full 8 Expected) (λ (seen : List Piece). piece_rule)
pieces_alike = always_alike (is_word (codes "piece")) 8 Expected piece_good (λ t us e. piece_free (t ∷ us)) (λ a f. piece_heads a) piece_opens

pub pieces_good : Good pieces_rule
unfolding pieces_rule
pieces_good = many_good pieces_alike

pub entry_good : Good entry_rule
unfolding entry_rule
entry_good =
    let a = free_pair (before_sign 2 (numbers_good 4 0 128 (omega arith)) (λ t us e. numbers_end 4 0 128 t us (ap (is_symbol 3) e))) pieces_good (λ us. refl) in
    let b = after_word (codes "path") a in
    let d = free_pair name_good b (λ us. refl) in
    renamed_good to_entry from_entry (λ a. refl) (λ b. refl)
    (after_word (codes "query") d)

entry_heads : (a : Entry) → Heads (is_word (codes "query")) (entry_rule.spell a)
unfolding entry_rule
entry_heads a = same_self (codes "query")

entry_opens : (t : Tok) → is_word (codes "query") t.face ≡ true → (a : Entry) × (more : List Tok) × entry_rule.fits aside a × Spelled (t ∷ more) (entry_rule.spell a)
unfolding entry_rule tail_of
entry_opens t e =
    let a = entry_good.some in
    (a.0, bearers (tail_of (entry_rule.spell a.0)), a.1, (((word_mark (codes "query")).only t.face e, tt), bearers_spelled (tail_of (entry_rule.spell a.0))))

-- no piece follows
entry_end : (t : Tok) (us : List Tok) → is_word (codes "piece") t.face ≡ false → entry_rule.follow (t ∷ us) ≡ true
unfolding entry_rule pieces_rule
entry_end t us e = both_made (not (is_word (codes "piece") t.face)) (piece_rule.follow (t ∷ us)) (ap not e) (piece_free (t ∷ us))

query_is : (t : Tok) → is_word (codes "query") t.face ≡ true → is_word (codes "piece") t.face ≡ false
query_is t e = ap (is_word (codes "piece")) ((word_mark (codes "query")).only t.face e)

pub entries_alike : Alike (is_word (codes "query")) (full 8 Expected) (λ (seen : List Entry). entry_rule)
entries_alike = always_alike (is_word (codes "query")) 8 Expected entry_good (λ t us e. entry_end t us (query_is t e)) (λ a f. entry_heads a) entry_opens

entries_good : Good entries_rule
unfolding entries_rule
entries_good = series_good entries_alike (record { good = entry_good; marked = λ t us e. entry_end t us (query_is t e); bares = λ a. refl })

entries_end : (t : Tok) (us : List Tok) → is_word (codes "query") t.face ≡ false → is_word (codes "piece") t.face ≡ false → entries_rule.follow (t ∷ us) ≡ true
unfolding entries_rule
entries_end t us e f = both_made (not (is_word (codes "query") t.face)) (cond (entry_rule.follow (t ∷ us)) (entry_rule.follow (t ∷ us)) false) (ap not e) (both_made (entry_rule.follow (t ∷ us)) (entry_rule.follow (t ∷ us)) (entry_end t us f) (entry_end t us f))

pub plan_good : Good plan_rule
unfolding plan_rule
plan_good = renamed_good to_plan from_plan (λ a. refl) (λ b. refl) (after_word (codes "plan") entries_good)

-- ---- the text

end_undone : (b : Bool) → end_in (end_face b) ≡ Some b
end_undone true = refl
end_undone false = refl

cost_is : (c b : Bool) → cost_in c ≡ Some b → (c ≡ true) × (b ≡ true)
cost_is true b e = let h : true ≡ b = cc in (refl, sym h)
cost_is false b e = absurd cc

end_only : (x : Lexeme) (b : Bool) → end_in x ≡ Some b → x ≡ end_face b
end_only (word w) b e = let k = cost_is (same w (codes "cost")) b e in ap word (same_text w (codes "cost") (sym k.0)) ∙ ap end_face (sym k.1)
end_only (number n) b e = absurd cc
end_only (symbol k) b e = absurd cc
end_only finish b e = let h : false ≡ b = cc in ap end_face h
end_only bad b e = absurd cc

pub ends_stand : Stands_for end_face end_in
ends_stand = record { undone = end_undone; only = end_only }

pub end_good : Good end_rule
end_good = leaf_good end_face end_in ends_stand any_end (true, refl)

plan_end : (b : Bool) (t : Tok) (us : List Tok) → t.face ≡ end_face b → plan_rule.follow (t ∷ us) ≡ true
unfolding plan_rule
plan_end true t us e = entries_end t us (ap (is_word (codes "query")) e) (ap (is_word (codes "piece")) e)
plan_end false t us e = entries_end t us (ap (is_word (codes "query")) e) (ap (is_word (codes "piece")) e)

plan_meets : (front us : List Tok) (b : Bool) → Spelled front (plain (end_face b) ∷ []) → plan_rule.follow (front ++ us) ≡ true
plan_meets [] us b s = absurd s
plan_meets (t ∷ ts) us b s = plan_end b t (ts ++ us) s.0.0

pub file_good : Good file_rule
unfolding file_rule
file_good = pair_good plan_good end_good (record { meets = λ front us b f s e. plan_meets front us b s })

pub ends : file_rule.follow [] ≡ true
unfolding file_rule
ends = refl
