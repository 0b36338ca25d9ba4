-- What options and queries have of cost and prices.
use Rattle.std.proofs.Common.{◌≡◌, ℕ, ◌+◌, ◌-◌, ◌*◌, ◌/◌, ◌≤◌, List, take, false, ap, ◌∙◌}
use Rattle.sn_switch.specs.declared.switch.Switch.{Switch}
use Rattle.sn_types.specs.declared.typed_query.TypedQuery.{TypedQuery}
use Rattle.sn_plan_fit.specs.Registers.{metadata}
use Rattle.sn_plan_choices.specs.Options.{option_at}
use Rattle.sn_plan_choices.specs.Planning.{PieceTask, entry_of, slots_of}
use Rattle.sn_plan_space.specs.declared.known.KnownOption.{KnownOption}
use Rattle.sn_plan_space.specs.Known.{known_option}
use Rattle.sn_prices_grammar.specs.declared.prices.Prices.{Prices}
use Rattle.sn_prices.specs.Limits.{metadata_price, worth}
use Rattle.sn_prices.specs.Least.{option_price, least_queries, shown_least}
use Rattle.sn_prices_bound.specs.Walks.{known_stages}
use Rattle.sn_prices_bound.proofs.Knowing.{stages_are}

module _ (s : Switch) (entry : ℕ → ℕ → ℕ → ℕ → ℕ) (p : Prices) (small : s.bits ≤ 4294967296) where
  has : KnownOption → ℕ
  has o = p.scale * o.cost + metadata_price p o.metadata + known_stages s p 0 o.slots

  known_has : (t : PieceTask) (x : ℕ) → has (known_option s entry t x) ≡ option_price s entry p t x
  unfolding has
  known_has t x =
      ap (λ n. p.scale * entry_of s entry t x + metadata_price p (metadata t.branch.schemas false 0 (take (option_at s t.branch x).0 t.branch.ops)) + n)
      (stages_are s p small 0 (slots_of s entry t x))

  pub option_has : (t : PieceTask) (x : ℕ) (o : KnownOption) (scale cost meta stages : ℕ) → scale ≡ p.scale → cost ≡ o.cost → meta ≡ metadata_price p o.metadata
      → stages ≡ known_stages s p 0 o.slots → o ≡ known_option s entry t x → scale * cost + meta + stages ≡ option_price s entry p t x
  unfolding has
  option_has t x o scale cost meta stages a b c d e =
      ap (λ n. n * cost + meta + stages) a ∙ ap (λ n. p.scale * n + meta + stages) b ∙ ap (λ n. p.scale * o.cost + n + stages) c
      ∙ ap (λ n. p.scale * o.cost + metadata_price p o.metadata + n) d ∙ ap has e ∙ known_has t x

pub shown_so : (s : Switch) (entry : ℕ → ℕ → ℕ → ℕ → ℕ) (p : Prices) (queries : List TypedQuery) (have limits left result : ℕ) → have ≡ least_queries s entry p 0 queries
    → limits ≡ worth s p → left ≡ have - limits → result ≡ (left + (p.scale - 1)) / p.scale → result ≡ shown_least s entry p queries
shown_so s entry p queries have limits left result a b c d =
    d ∙ ap (λ n. (n + (p.scale - 1)) / p.scale) (c ∙ ap (λ n. n - limits) a ∙ ap (λ n. least_queries s entry p 0 queries - n) b)
