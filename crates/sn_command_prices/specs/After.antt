-- to be believed
-- What the text of a cost, prices and what they show, after a plan, is judged to be.
use Rattle.std.specs.Prelude.{ℕ, List, Result}
use Rattle.sn_command.specs.declared.fault.Fault.{Fault}
use Rattle.sn_command.specs.declared.fault.Fault.TheVariants as faults
use Rattle.sn_command.specs.declared.fault.TextKind.{TextKind}
use Rattle.sn_command.specs.declared.fault.TextKind.TheVariants as kinds
use Rattle.sn_command.specs.declared.refusal.Refusal.{Refusal}
use Rattle.sn_command.specs.declared.refusal.Refusal.TheVariants.{Memory, Refused}
use Rattle.sn_command.specs.Stages.{ReadAs}
use Rattle.sn_prices_grammar.specs.declared.prices.Shown.{Shown}
use Rattle.sn_prices_text.specs.PricesTexts as prices
use Rattle.sn_prices_text.specs.declared.fault.PricesFault.{PricesFault}
use Rattle.sn_prices_text.specs.declared.fault.PricesFault.TheVariants as prices_faults

abbrev pub prices_at : TextKind → ℕ → Fault
prices_at kind line = faults.Tree (record { kind = kind; line = line })

-- The fault of a command whose text of prices has this fault: that of a tree, in whose place the prices stand. Being out of memory is no fault of a
-- text, so what stands beside it here is never reported.
abbrev pub prices_text_fault : PricesFault → Fault
prices_text_fault (prices_faults.Lex line) = prices_at kinds.Lex line
prices_text_fault (prices_faults.Expected line) = prices_at kinds.Expected line
prices_text_fault prices_faults.Memory = faults.TooLarge

-- the refusal of a command whose text of prices is answered so
abbrev pub prices_text_refusal : PricesFault → Refusal
prices_text_refusal (prices_faults.Lex line) = Refused (prices_at kinds.Lex line)
prices_text_refusal (prices_faults.Expected line) = Refused (prices_at kinds.Expected line)
prices_text_refusal prices_faults.Memory = Memory

-- a cost, prices and what they show, from this byte of the text to its end
abbrev pub PricesAfter : List ℕ → ℕ → Result Shown Fault → Type 0
PricesAfter text byte = ReadAs prices_text_fault (prices.IsRead text byte)
