-- Texts by their parts, as a buffer takes them.
use Rattle.std.specs.Prelude.{ℕ, List, codes}
use Rattle.std.specs.Fmt.{decimal}
use Rattle.ax_base.specs.declared.position.Place.{Place}
use Rattle.ax_ask.specs.declared.op.Item.{Item}
use Rattle.ax_run_rules.specs.Writing.{◌⌢◌, quoted_scalar, place_text}
use Rattle.ax_run_rules.specs.ReplayText.{item_text}

-- a further number of a list
unfoldable pub number_after : ℕ → List ℕ
number_after n = codes " " ⌢ decimal n

-- A byte of a string. It stays as it is where it is a part of a longer scalar.
unfoldable pub byte_text : ℕ → List ℕ
byte_text b = quoted_scalar b

-- a further place of a list
unfoldable pub place_after : Place → List ℕ
place_after p = codes " " ⌢ place_text p

-- a further item of an order
unfoldable pub item_after : Item → List ℕ
item_after i = codes " " ⌢ item_text i
