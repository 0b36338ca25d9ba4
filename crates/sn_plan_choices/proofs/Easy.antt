-- Each query at its finest level alone, with nothing in the switch, is a plan.
use Rattle.std.proofs.Common.{◌≡◌, ℕ, ◌+◌, ◌-◌, ◌^◌, ◌<◌, List, [], ◌∷◌, ◌++◌, map, length, take, true, false, ◌||◌, refl, ap, sym, ◌∙◌, subst, arith, add-one, pow_pos}
use Rattle.std.specs.Prelude.{nat_lt, slice_get, unwrap_or, if◌then◌else◌}
use Rattle.std.specs.List.{AllByRecursion, flat_map, range_with_len, sum_by, list_any}
use Rattle.std.proofs.lemmas.Bool.Decides.{nat_tests}
use Rattle.std.proofs.lemmas.List.Sums.{sum_by-cons}
use Rattle.sn_switch.specs.declared.switch.Switch.{Switch}
use Rattle.sn_types.specs.declared.typed_query.TypedQuery.{TypedQuery}
use Rattle.sn_types.specs.declared.typed_query.TypedBranch.{TypedBranch}
use Rattle.sn_plan_fit.specs.Registers.{count_in, bits_in, metadata}
use Rattle.sn_types.specs.Cuts.{stateful}
use Rattle.sn_tree_space.specs.Space.{SpaceLaws}
use Rattle.sn_tree_space.specs.Readers.{MayFollow}
use Rattle.sn_tree_space.specs.Agendas.{EasyLaws, agenda_space}
use Rattle.sn_tree_space.proofs.Agendas.{easy_laws}
use Rattle.sn_plan_choices.specs.Options.{size_lists, options, option_at, piece_slots}
use Rattle.sn_plan_choices.specs.Planning.{Taken, in_metadata, past_stages, register_of, metadata_of, is_past, registers_in, is_full, is_too_much, Task, for_path, for_piece, for_stage, PieceTask, next_stage, past_by, level_pieces, path_pieces, slots_of, settings, choices_of, leaves_of, takes_of, planning, first_tasks}
use Rattle.sn_plan_choices.proofs.Planning.{planning_laws}

-- ---- the first option takes nothing into the switch

first_option : (s : Switch) (b : TypedBranch) → options s b ≡ (0, []) ∷ flat_map (λ cut. map (λ sizes. (cut, sizes)) (size_lists s.slots (stateful (take cut b.ops)))) (range_with_len (0 + 1) b.max_cut)
first_option s b = ap (λ n. flat_map (λ cut. map (λ sizes. (cut, sizes)) (size_lists s.slots (stateful (take cut b.ops)))) (range_with_len 0 n)) (add-one b.max_cut)

-- ---- easy tasks

abbrev Easy : Task → Type 0
Easy (for_path t) = Unit {0}
Easy (for_piece t) = t.is_first ≡ true
Easy (for_stage t) = ⊥

abbrev Harmless : List Taken → Type 0
Harmless taken = AllByRecursion (λ u. u ≡ in_metadata 0) taken

easy_level : (query levels n : ℕ) (bs : List TypedBranch) → AllByRecursion Easy (map for_piece (level_pieces query levels true n bs))
easy_level query levels n [] = tt
easy_level query levels n (b ∷ bs) = (refl, easy_level query levels (n + 1) bs)

easy_path : (query : ℕ) (bs : List TypedBranch) (i : ℕ) (ls : List ℕ) → AllByRecursion Easy (map for_piece (path_pieces query bs 0 i 0 ls))
easy_path query bs i [] = tt
easy_path query bs i (l ∷ []) = easy_level query (0 + 2 ^ i) 0 bs
easy_path query bs i (l ∷ k ∷ ls) = easy_path query bs (i + 1) (k ∷ ls)

not_below_zero : (n : ℕ) → nat_lt n 0 ≡ false
not_below_zero n = grind (arith, nat_tests)

-- ---- what is harmless isn't too much

none_past : (taken : List Taken) → Harmless taken → list_any is_past taken ≡ false
none_past [] h = refl
none_past (u ∷ taken) h = ap (λ v. is_past v || list_any is_past taken) h.0 ∙ none_past taken h.1

no_registers : (taken : List Taken) → Harmless taken → registers_in taken ≡ []
no_registers [] h = refl
no_registers (u ∷ taken) h = ap (λ v. register_of v ++ registers_in taken) h.0 ∙ no_registers taken h.1

no_metadata : (taken : List Taken) → Harmless taken → sum_by metadata_of taken ≡ 0
no_metadata [] h = refl
no_metadata (u ∷ taken) h = sum_by-cons metadata_of u taken ∙ ap (λ v. metadata_of v + sum_by metadata_of taken) h.0 ∙ (let rest = no_metadata taken h.1 in omega arith)

none_full : (s : Switch) (taken : List Taken) (stages : List ℕ) → registers_in taken ≡ [] → list_any (is_full s taken) stages ≡ false
none_full s taken [] e = refl
none_full s taken (stage ∷ stages) e =
    ap (λ l. (nat_lt s.actions (count_in stage l) || nat_lt s.bits (bits_in stage l)) || list_any (is_full s taken) stages) e
    ∙ ap (λ t. (t || nat_lt s.bits 0) || list_any (is_full s taken) stages) (not_below_zero s.actions)
    ∙ ap (λ t. t || list_any (is_full s taken) stages) (not_below_zero s.bits) ∙ none_full s taken stages e

harmless_fine : (s : Switch) (taken : List Taken) → Harmless taken → is_too_much s taken ≡ false
harmless_fine s taken h =
    ap (λ t. t || (list_any (is_full s taken) (range_with_len 0 s.stages) || nat_lt s.meta (sum_by metadata_of taken))) (none_past taken h)
    ∙ ap (λ t. t || nat_lt s.meta (sum_by metadata_of taken)) (none_full s taken (range_with_len 0 s.stages) (no_registers taken h))
    ∙ ap (nat_lt s.meta) (no_metadata taken h) ∙ not_below_zero s.meta

harmless_more : (taken more : List Taken) → Harmless taken → Harmless more → Harmless (taken ++ more)
harmless_more [] more a b = b
harmless_more (u ∷ taken) more a b = (a.0, harmless_more taken more a.1 b)

module _ (s : Switch) (entry : ℕ → ℕ → ℕ → ℕ → ℕ) where
  first_setting : (t : PieceTask) → option_at s t.branch 0 ≡ (0, [])
  first_setting t = ap (λ l. unwrap_or (slice_get l 0) (0, [])) (first_option s t.branch)

  some_setting : (t : PieceTask) → 0 < settings s entry t
  some_setting t = let e = ap length (first_option s t.branch) in omega arith

  no_slots : (t : PieceTask) → t.is_first ≡ true → slots_of s entry t 0 ≡ []
  no_slots t e = ap (λ o. piece_slots s t.is_first t.branch o) (first_setting t) ∙ ap (λ f. piece_slots s f t.branch (0, [])) e

  may : (t : Task) → Easy t → MayFollow (choices_of s entry t) 0
  may (for_path t) h = let some = pow_pos (length t.typed.levels - 1) in (omega arith, omega arith)
  may (for_piece t) h = let some = some_setting t in (omega arith, omega arith)
  may (for_stage t) h = absurd h

  leaves : (t : Task) → Easy t → AllByRecursion Easy (leaves_of s entry t 0)
  leaves (for_path t) h = easy_path t.query t.typed.branches 0 t.typed.levels
  leaves (for_piece t) h = subst (λ l. AllByRecursion Easy (map for_stage (next_stage 0 l))) (sym (no_slots t h)) tt
  leaves (for_stage t) h = absurd h

  taken_first : (t : PieceTask) → t.is_first ≡ true → takes_of s entry (for_piece t) 0 ≡ in_metadata 0 ∷ []
  taken_first t h =
      ap (λ o. in_metadata (metadata t.branch.schemas false 0 (take o.0 t.branch.ops)) ∷ past_by s.stages 0 (slots_of s entry t 0)) (first_setting t)
      ∙ ap (λ l. in_metadata 0 ∷ past_by s.stages 0 l) (no_slots t h) ∙ ap (λ b. in_metadata 0 ∷ (if b then past_stages ∷ [] else [])) (not_below_zero s.stages)

  takes : (t : Task) (taken : List Taken) → Easy t → Harmless taken → Harmless (taken ++ takes_of s entry t 0)
  takes (for_path t) taken h fine = harmless_more taken [] fine tt
  takes (for_piece t) taken h fine = harmless_more taken (takes_of s entry (for_piece t) 0) fine (subst Harmless (sym (taken_first t h)) (refl, tt))
  takes (for_stage t) taken h fine = absurd h

  easy_tasks : (n : ℕ) (qs : List TypedQuery) → AllByRecursion Easy (first_tasks n qs)
  easy_tasks n [] = tt
  easy_tasks n (q ∷ qs) = (tt, easy_tasks (n + 1) qs)

  pub plans_laws : (qs : List TypedQuery) → SpaceLaws (agenda_space (planning s entry) (first_tasks 0 qs))
  plans_laws qs =
      let E : EasyLaws (planning s entry) Easy Harmless = record { may = may; leaves = leaves; takes = takes; nothing = tt; fine = harmless_fine s } in
      easy_laws (planning s entry) (planning_laws s entry) Easy Harmless E (first_tasks 0 qs) (easy_tasks 0 qs)
