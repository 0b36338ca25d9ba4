-- What is printed stands for the same cost, prices and least.
use Rattle.std.proofs.Common.{◌≡◌, ℕ, List, sym, subst, ◌∙◌}
use Rattle.sn_text_rules.specs.Rules.{kept, Accepts}
use Rattle.sn_text.specs.Cutting.{tokens_of}
use Rattle.sn_text.proofs.Chunks.{text_of, read_again}
use Rattle.sn_prices_grammar.specs.declared.prices.Shown.{Shown}
use Rattle.sn_prices_grammar.specs.PricesGrammar.{shown_rule}
use Rattle.sn_prices_grammar.proofs.Goods.{shown_good, shown_bare}
use Rattle.sn_prices_text.specs.PricesTexts.{StandsFor, IsParsed}
use Rattle.sn_prices_text.specs.PricesPrinting.{shown_text}
use Rattle.sn_prices_text.proofs.Chunks.{shown_chunks, shown_is, shown_spaced, shown_fine, shown_faces}

stands : (x : Shown) → shown_rule.fits kept x → StandsFor (tokens_of (shown_text x)) x
stands x f =
    let a = read_again shown_good x (shown_chunks x) f (shown_faces x) (shown_fine x f) (shown_spaced x) in
    let is = sym (shown_bare a.value) ∙ a.same ∙ shown_bare x in
    let same = subst (λ (y : Shown). Accepts shown_rule (tokens_of (text_of (shown_chunks x))) y) is a.accepted in
    subst (λ (w : List ℕ). Accepts shown_rule (tokens_of w) x) (shown_is x) same

pub stands_again : (x : Shown) (text : List ℕ) → text ≡ shown_text x → IsParsed x → StandsFor (tokens_of text) x
stands_again x text e h = subst (λ (w : List ℕ). StandsFor (tokens_of w) x) (sym e) (stands x h.2.fits)
