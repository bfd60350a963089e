-- The rows of the tables that the rules name.
use Rattle.std.specs.Prelude.{ℕ}

-- attributes
abbrev pub name_key : ℕ
name_key = 1

abbrev pub value_key : ℕ
value_key = 3

abbrev pub live_key : ℕ
live_key = 7

abbrev pub active_descendant_key : ℕ
active_descendant_key = 12

abbrev pub clips_key : ℕ
clips_key = 14

abbrev pub container_key : ℕ
container_key = 36

abbrev pub scroll_x_key : ℕ
scroll_x_key = 37

abbrev pub scroll_y_key : ℕ
scroll_y_key = 38

-- the state of nodes that the shown list passes over
abbrev pub ignored_state : ℕ
ignored_state = 8

-- events
abbrev pub document_title_changed : ℕ
document_title_changed = 1

abbrev pub url_changed : ℕ
url_changed = 2

abbrev pub load_complete : ℕ
load_complete = 3

abbrev pub selection_changed : ℕ
selection_changed = 4

abbrev pub focus_changed : ℕ
focus_changed = 5

abbrev pub role_changed : ℕ
role_changed = 6

abbrev pub location_changed : ℕ
location_changed = 23

abbrev pub children_changed : ℕ
children_changed = 24

abbrev pub subtree_created : ℕ
subtree_created = 25

abbrev pub live_region_changed : ℕ
live_region_changed = 26
