-- The order of a script: items, with one space between.
use Rattle.std.specs.Prelude.{◌≡◌, ◌&&◌, ◌==◌, ◌+◌, ◌-◌, ◌*◌, ℕ, List, [], ◌∷◌, ◌++◌, Bool, nat_le, length, take, drop, position, if◌then◌else◌, Option, Some, None, option_map, option_and_then, Result, Ok, Err}
use Rattle.ax_base.specs.declared.pass.Token.{Token}
use Rattle.ax_ask.specs.declared.op.Item.{Item}
use Rattle.ax_script.specs.declared.order.OrderErr.{OrderErr}
use Rattle.ax_script.specs.declared.order.OrderErr.TheVariants.{BadItem, NoMemory}
use Rattle.ax_ask.specs.declared.op.Item.TheVariants.{Frame, Receive, Browser, Deliver, Reader}

-- the pieces between spaces, where the first begins with the word
abbrev pub pieces_from : List ℕ → List ℕ → List (List ℕ)
pieces_from word [] = word ∷ []
pieces_from word (c ∷ cs) = if c == 32 then word ∷ pieces_from [] cs else pieces_from (word ++ c ∷ []) cs

-- the number that digits stand for, after those whose value is n, where it is at most `high`
abbrev pub digits_to : ℕ → ℕ → List ℕ → Option ℕ
digits_to high n [] = if nat_le n high then Some n else None
digits_to high n (d ∷ ds) = if nat_le 48 d && nat_le d 57 && nat_le n high then digits_to high (n * 10 + (d - 48)) ds else None

-- digits without a leading zero, for a number from 1 to `high`
abbrev pub number_to : ℕ → List ℕ → Option ℕ
number_to high [] = None
number_to high (d ∷ ds) = if nat_le 49 d && nat_le d 57 then digits_to high (d - 48) ds else None

abbrev pub tree_named : (ℕ → Bool) → List ℕ → Option ℕ
tree_named knows digits = option_and_then (λ t. if knows t then Some t else None) (number_to 1000 digits)

abbrev pub token_named : List ℕ → Option Token
token_named digits = option_map (λ n. record { 0 = n }) (number_to 1000000 digits)

-- a tree, a colon and a token
abbrev pub token_after : ℕ → List ℕ → Option Item
token_after t [] = None
token_after t (c ∷ digits) = option_map (λ n. Deliver t n) (token_named digits)

abbrev pub delivery_at : (ℕ → Bool) → List ℕ → Option ℕ → Option Item
delivery_at knows text None = None
delivery_at knows text (Some i) = option_and_then (λ t. token_after t (drop i text)) (tree_named knows (take i text))

abbrev pub delivery : (ℕ → Bool) → List ℕ → Option Item
delivery knows text = delivery_at knows text (position (λ c. c == 58) text)

-- one of the script's readers, of which there are 16 at most
abbrev pub reader_named : ℕ → List ℕ → Option Item
reader_named readers digits = option_and_then (λ k. if nat_le k readers then Some (Reader k) else None) (number_to 16 digits)

-- `b`, `f` or `a` with a tree, `d` with a tree and a token, `r` with the number of a reader
abbrev pub item_of : (ℕ → Bool) → ℕ → List ℕ → Option Item
item_of knows readers [] = None
item_of knows readers (c ∷ text) =
    if c == 98 then (if length text == 0 then Some Browser else None) else (if c == 102 then option_map (λ t. Frame t) (tree_named knows text) else (if c == 97 then option_map (λ t. Receive t) (tree_named knows text) else (if c == 100 then delivery knows text else (if c == 114 then reader_named readers text else None))))

abbrev pub or_bad : Option Item → ℕ → (Item → Result (List Item) ℕ) → Result (List Item) ℕ
or_bad None i next = Err i
or_bad (Some item) i next = next item

-- the items after those found, or the number of the first that is none, from 1
abbrev pub items_after : (ℕ → Bool) → ℕ → List Item → List (List ℕ) → Result (List Item) ℕ
items_after knows readers found [] = Ok found
items_after knows readers found (word ∷ words) =
    or_bad (item_of knows readers word) (length found + 1) (λ item. items_after knows readers (found ++ item ∷ []) words)

-- the empty text has no items
abbrev pub order_of : (ℕ → Bool) → ℕ → List ℕ → Result (List Item) ℕ
order_of knows readers [] = Ok []
order_of knows readers (c ∷ cs) = items_after knows readers [] (pieces_from [] (c ∷ cs))

-- what a function returned is what the text's order is, unless memory ran out
abbrev pub GivesOrder : Result (List Item) OrderErr → Result (List Item) ℕ → Type 0
GivesOrder (Ok items) order = order ≡ Ok items
GivesOrder (Err (BadItem i)) order = order ≡ Err i
GivesOrder (Err NoMemory) order = Unit {0}
