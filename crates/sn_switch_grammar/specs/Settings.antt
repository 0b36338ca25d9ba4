-- to be believed
-- The settings of a switch text and their words.
use Rattle.std.specs.Prelude.{ℕ, Bool, true, false, List, Option, Some, None, ◌==◌, codes, if◌then◌else◌}
use Rattle.std.specs.List.{list_any}
use Rattle.sn_text_rules.specs.Tokens.{Lexeme, word}
use Rattle.sn_text_rules.specs.Words.{same}
use Rattle.sn_switch_grammar.specs.declared.item.Setting.{Setting}
use Rattle.sn_switch_grammar.specs.declared.item.Setting.TheVariants as settings
use Rattle.sn_switch_grammar.specs.declared.item.Item.{Item}

abbrev pub text_of : Setting → List ℕ
text_of settings.Stages = codes "stages"
text_of settings.Actions = codes "actions"
text_of settings.Bits = codes "bits"
text_of settings.Meta = codes "meta"
text_of settings.Chain = codes "chain"
text_of settings.Slots = codes "slots"
text_of settings.Entries = codes "entries"
text_of settings.Weight = codes "weight"

abbrev pub word_of : Setting → Lexeme
word_of k = word (text_of k)

-- the setting of a word, if it is one of the eight
abbrev pub setting_of : List ℕ → Option Setting
setting_of w =
    if same w (codes "stages") then Some settings.Stages else if same w (codes "actions") then Some settings.Actions
    else if same w (codes "bits") then Some settings.Bits else if same w (codes "meta") then Some settings.Meta
    else if same w (codes "chain") then Some settings.Chain else if same w (codes "slots") then Some settings.Slots
    else if same w (codes "entries") then Some settings.Entries else if same w (codes "weight") then Some settings.Weight else None

abbrev pub setting_in : Lexeme → Option Setting
setting_in (word w) = setting_of w
setting_in _ = None

abbrev pub is_there : {A : Type 0} → Option A → Bool
is_there None = false
is_there (Some a) = true

-- an item begins with one of the eight words
abbrev pub begins : Lexeme → Bool
begins x = is_there (setting_in x)

abbrev pub place : Setting → ℕ
place settings.Stages = 0
place settings.Actions = 1
place settings.Bits = 2
place settings.Meta = 3
place settings.Chain = 4
place settings.Slots = 5
place settings.Entries = 6
place settings.Weight = 7

-- the first six stand in every text
abbrev pub is_required : Setting → Bool
is_required settings.Entries = false
is_required settings.Weight = false
is_required _ = true

abbrev pub is : Setting → Setting → Bool
is k j = place k == place j

-- whether an item is of the setting
abbrev pub sets : Setting → Item → Bool
sets k item = is k item.setting

-- whether one of these items is
abbrev pub has : Setting → List Item → Bool
has k items = list_any (sets k) items
