-- A search answers in one way.
use Rattle.std.proofs.Common.{◌≡◌, ℕ, List, Result, Ok, Err, refl, ap, sym, subst, ◌∙◌, arith}
use Rattle.std.specs.Prelude.{nat_lt}
use Rattle.std.proofs.lemmas.Bool.{ltb-true, ltb-false}
use Rattle.sn_base.proofs.Lists.{by_test}
use Rattle.sn_plan_choices.proofs.Easy.{plans_laws}
use Rattle.sn_plan_lists.specs.Chosen.{plan_at}
use Rattle.sn_plan_grammar.specs.declared.plan.Entry.{Entry}
use Rattle.sn_cost_laws.specs.Space.{trained_entry, trained_plans}
use Rattle.sn_windows.specs.Rising.{Window}
use Rattle.sn_tree_space.specs.declared.node.Node.{Node}
use Rattle.sn_tree_space.specs.Space.{Space, SpaceLaws}
use Rattle.sn_tree_space.specs.Searches.{any_bound}
use Rattle.sn_tree_space.specs.Trees.{count_expands, tree_of}
use Rattle.sn_tree_space.proofs.Existence.{some_first_least}
use Rattle.sn_command.specs.declared.fault.Fault.{Fault}
use Rattle.sn_command.specs.declared.fault.Fault.TheVariants.{Budget}
use Rattle.sn_command.specs.Stages.{HasVerdict}
use Rattle.sn_command.proofs.StageLemmas.{MayCome}
use Rattle.sn_switch.specs.declared.switch.Switch.{Switch}
use Rattle.sn_types.specs.declared.typed_query.TypedQuery.{TypedQuery}
use Rattle.sn_command_search.specs.declared.certificate.Certificate.{Certificate}
use Rattle.sn_command_search.specs.Certificates.{IsCertificate, IsSpent, SearchedIn}
use Rattle.sn_command_search.proofs.Budgets.{bound_once, first_once, past_bound, some_past}

abbrev certificate_of : List Entry → ℕ → List ℕ → List Node → Certificate
certificate_of entries cost choices tree = record { plan = record { entries = entries }; cost = cost; choices = choices; tree = tree }

module _ (s : Switch) (queries : List TypedQuery) (given : List Window) (nodes : ℕ) where
  abbrev plans : Space
  plans = trained_plans s queries given

  laws : SpaceLaws plans
  laws = plans_laws s (trained_entry s queries given) queries

  certificate_is : (c d : Certificate) → c.plan.entries ≡ d.plan.entries → c.cost ≡ d.cost → c.choices ≡ d.choices → c.tree ≡ d.tree → c ≡ d
  certificate_is c d plan cost choices tree = made c.plan.entries d.plan.entries c.cost d.cost c.choices d.choices c.tree d.tree plan cost choices tree
    where
      made : (es fs : List Entry) (m n : ℕ) (ps qs : List ℕ) (ts us : List Node) → es ≡ fs → m ≡ n → ps ≡ qs → ts ≡ us → certificate_of es m ps ts ≡ certificate_of fs n qs us
      made es fs m n ps qs ts us a b c d = rw (a, b, c, d) refl

  one_certificate : (c d : Certificate) → IsCertificate s queries given nodes c → IsCertificate s queries given nodes d → c ≡ d
  one_certificate c d C D =
      let same : c.choices ≡ d.choices = first_once plans c.choices d.choices C.first D.first in
      certificate_is c d
      (C.plan ∙ ap (plan_at s queries) same ∙ sym D.plan)
      (C.cost ∙ ap (λ (l : List ℕ). plans.lower l) same ∙ sym D.cost)
      same
      (C.tree ∙ ap (tree_of plans) same ∙ sym D.tree)

  one_fault : (e f : Fault) → IsSpent s queries given nodes e → IsSpent s queries given nodes f → e ≡ f
  one_fault e f E F = E.same ∙ ap (λ (b : ℕ). Budget (record { nodes = nodes; bound = b })) (bound_once plans laws nodes E.bound F.bound E.is F.is) ∙ sym F.same

  apart : (c : Certificate) (e : Fault) → IsCertificate s queries given nodes c → IsSpent s queries given nodes e → ⊥
  apart c e C E =
      let past = E.is.past c.choices C.first in
      let within = C.within in
      let same = ap (count_expands any_bound) C.tree in omega arith

  -- a search never refuses the queries or the switch
  pub search_may : (verdict : Result Certificate Fault) → SearchedIn s queries given nodes verdict → MayCome 0 verdict
  search_may (Ok c) is = tt
  search_may (Err e) is = subst (λ (f : Fault). MayCome {A = Certificate} 0 (Err f)) (sym is.same) tt

  pub search_once : (first second : Result Certificate Fault) → SearchedIn s queries given nodes first → SearchedIn s queries given nodes second → first ≡ second
  search_once (Ok c) (Ok d) C D = ap Ok (one_certificate c d C D)
  search_once (Ok c) (Err f) C F = absurd (apart c f C F)
  search_once (Err e) (Ok d) E D = absurd (apart d e D E)
  search_once (Err e) (Err f) E F = ap Err (one_fault e f E F)

  pub one_search : HasVerdict (SearchedIn s queries given nodes)
  one_search =
      let first = some_first_least plans laws in
      by_test (nat_lt nodes (count_expands any_bound (tree_of plans first.0)))
      (λ is.
      let past = ltb-true nodes (count_expands any_bound (tree_of plans first.0)) is in
      let bound = some_past plans laws nodes first.0 first.1 past in
      record {
        verdict = Err (Budget (record { nodes = nodes; bound = bound.0 }));
        is = record { bound = bound.0; is = past_bound plans laws nodes first.0 first.1 past bound.0 bound.1; same = refl };
        once = search_once;
      })
      (λ isnt. record {
        verdict = Ok (record { plan = record { entries = plan_at s queries first.0 }; cost = plans.lower first.0; choices = first.0; tree = tree_of plans first.0 });
        is = record { first = first.1; plan = refl; cost = refl; tree = refl; within = ltb-false nodes (count_expands any_bound (tree_of plans first.0)) isnt };
        once = search_once;
      })
