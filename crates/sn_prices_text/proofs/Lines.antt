-- The front of a limit's line is written part by part.
use Rattle.std.proofs.Common.{◌≡◌, ℕ, List, ◌++◌, ap, ◌∙◌, append_assoc}
use Rattle.std.specs.Prelude.{codes}
use Rattle.std.specs.Fmt.{decimal}
use Rattle.sn_prices_text.specs.PricesPrinting.{span_text}

grouped : (o a x b y : List ℕ) → o ++ a ++ x ++ b ++ y ≡ o ++ (a ++ x ++ b ++ y)
grouped o a x b y =
    ap (λ (w : List ℕ). w ++ b ++ y) (append_assoc o a x) ∙ ap (λ (w : List ℕ). w ++ y) (append_assoc o (a ++ x) b) ∙ append_assoc o (a ++ x ++ b) y

pub span_put : (old mid new : List ℕ) (x y first last : ℕ) → new ≡ mid ++ codes ", " ++ decimal y → mid ≡ old ++ codes "limit stages " ++ decimal x → x ≡ first → y ≡ last
    → new ≡ old ++ span_text first last
span_put old mid new x y first last e f g h =
    e ∙ ap (λ (w : List ℕ). w ++ codes ", " ++ decimal y) f ∙ grouped old (codes "limit stages ") (decimal x) (codes ", ") (decimal y)
    ∙ ap (λ (n : ℕ). old ++ (codes "limit stages " ++ decimal n ++ codes ", " ++ decimal y)) g
    ∙ ap (λ (n : ℕ). old ++ (codes "limit stages " ++ decimal first ++ codes ", " ++ decimal n)) h
