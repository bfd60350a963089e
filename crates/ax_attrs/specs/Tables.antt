-- The tables of roles, states, attributes and events.
use Rattle.std.specs.Prelude.{ℕ, List, [], ◌∷◌, codes, Some, None}
use Rattle.ax_attrs.specs.declared.table.Kind.TheVariants.{Text, Int, Flag, Node, Tree}
use Rattle.ax_attrs.specs.declared.table.When.TheVariants.{Gained, Either, Lost}
use Rattle.ax_attrs.specs.declared.table.Version.{Version}
use Rattle.ax_attrs.specs.declared.table.Version.TheVariants.{One, Two}
use Rattle.ax_attrs.specs.Entry.{Entry, plain, with_event, with_kind}

abbrev pub event_rows : List Entry
event_rows =
    plain 1 (codes "document_title_changed") ∷
    plain 2 (codes "url_changed") ∷
    plain 3 (codes "load_complete") ∷
    plain 4 (codes "selection_changed") ∷
    plain 5 (codes "focus_changed") ∷
    plain 6 (codes "role_changed") ∷
    plain 7 (codes "expanded") ∷
    plain 8 (codes "collapsed") ∷
    plain 9 (codes "state_changed") ∷
    plain 10 (codes "ignored_changed") ∷
    plain 11 (codes "name_changed") ∷
    plain 12 (codes "description_changed") ∷
    plain 13 (codes "value_changed") ∷
    plain 14 (codes "placeholder_changed") ∷
    plain 15 (codes "child_tree_changed") ∷
    plain 16 (codes "live_status_changed") ∷
    plain 17 (codes "level_changed") ∷
    plain 18 (codes "checked_changed") ∷
    plain 19 (codes "active_descendant_changed") ∷
    plain 20 (codes "busy_changed") ∷
    plain 21 (codes "selected_changed") ∷
    plain 22 (codes "attribute_changed") ∷
    plain 23 (codes "location_changed") ∷
    plain 24 (codes "children_changed") ∷
    plain 25 (codes "subtree_created") ∷
    plain 26 (codes "live_region_changed") ∷
    plain 27 (codes "shown") ∷
    plain 28 (codes "pressed_changed") ∷
    plain 29 (codes "role_description_changed") ∷
    plain 30 (codes "error_changed") ∷
    []

abbrev pub role_rows : List Entry
role_rows =
    plain 1 (codes "generic") ∷
    plain 2 (codes "root_web_area") ∷
    plain 3 (codes "heading") ∷
    plain 4 (codes "paragraph") ∷
    plain 5 (codes "static_text") ∷
    plain 6 (codes "link") ∷
    plain 7 (codes "button") ∷
    plain 8 (codes "checkbox") ∷
    plain 9 (codes "text_field") ∷
    plain 10 (codes "image") ∷
    plain 11 (codes "list") ∷
    plain 12 (codes "list_item") ∷
    plain 13 (codes "table") ∷
    plain 14 (codes "row") ∷
    plain 15 (codes "cell") ∷
    plain 16 (codes "iframe") ∷
    plain 17 (codes "dialog") ∷
    plain 18 (codes "alert") ∷
    plain 19 (codes "menu") ∷
    plain 20 (codes "menu_item") ∷
    plain 21 (codes "tab") ∷
    plain 22 (codes "tab_list") ∷
    plain 23 (codes "main") ∷
    plain 24 (codes "navigation") ∷
    plain 25 (codes "form") ∷
    plain 26 (codes "slider") ∷
    plain 27 (codes "status") ∷
    plain 28 (codes "article") ∷
    plain 29 (codes "banner") ∷
    plain 30 (codes "complementary") ∷
    plain 31 (codes "search") ∷
    plain 32 (codes "region") ∷
    plain 33 (codes "tree") ∷
    plain 34 (codes "tree_item") ∷
    plain 35 (codes "switch") ∷
    plain 36 (codes "progress_bar") ∷
    []

-- each state with the event that it makes, and when
abbrev pub state_rows : List Entry
state_rows =
    with_event 1 (codes "focusable") 9 Either ∷
    with_event 2 (codes "expanded") 7 Gained ∷
    with_event 3 (codes "collapsed") 8 Gained ∷
    with_event 4 (codes "editable") 9 Either ∷
    with_event 5 (codes "invisible") 9 Either ∷
    with_event 6 (codes "required") 9 Either ∷
    with_event 7 (codes "visited") 9 Either ∷
    with_event 8 (codes "ignored") 10 Either ∷
    with_event 9 (codes "multiselectable") 9 Either ∷
    with_event 10 (codes "protected") 9 Either ∷
    with_event 11 (codes "offscreen") 27 Lost ∷
    with_event 12 (codes "pressed") 28 Either ∷
    []

-- each attribute with its kind, and the event that a change of it makes
abbrev pub key_rows : List Entry
key_rows =
    with_kind 1 (codes "name") Text (Some 11) ∷
    with_kind 2 (codes "description") Text (Some 12) ∷
    with_kind 3 (codes "value") Text (Some 13) ∷
    with_kind 4 (codes "placeholder") Text (Some 14) ∷
    with_kind 5 (codes "language") Text (Some 22) ∷
    with_kind 6 (codes "child_tree") Tree (Some 15) ∷
    with_kind 7 (codes "live") Text (Some 16) ∷
    with_kind 8 (codes "level") Int (Some 17) ∷
    with_kind 9 (codes "pos_in_set") Int (Some 22) ∷
    with_kind 10 (codes "set_size") Int (Some 22) ∷
    with_kind 11 (codes "checked") Text (Some 18) ∷
    with_kind 12 (codes "active_descendant") Node (Some 19) ∷
    with_kind 13 (codes "controls") Node (Some 22) ∷
    with_kind 14 (codes "clips") Flag None ∷
    with_kind 15 (codes "busy") Flag (Some 20) ∷
    with_kind 16 (codes "modal") Flag (Some 22) ∷
    with_kind 17 (codes "selected") Flag (Some 21) ∷
    with_kind 18 (codes "value_now") Int (Some 13) ∷
    with_kind 19 (codes "value_min") Int (Some 22) ∷
    with_kind 20 (codes "value_max") Int (Some 22) ∷
    with_kind 21 (codes "url") Text (Some 22) ∷
    with_kind 22 (codes "access_key") Text (Some 22) ∷
    with_kind 23 (codes "class_name") Text None ∷
    with_kind 24 (codes "atomic") Flag None ∷
    with_kind 25 (codes "role_description") Text (Some 29) ∷
    with_kind 26 (codes "key_shortcuts") Text (Some 22) ∷
    with_kind 27 (codes "tooltip") Text (Some 22) ∷
    with_kind 28 (codes "invalid") Text (Some 30) ∷
    with_kind 29 (codes "error_message") Node (Some 30) ∷
    with_kind 30 (codes "details") Node (Some 22) ∷
    with_kind 31 (codes "flow_to") Node (Some 22) ∷
    with_kind 32 (codes "labelled_by") Node (Some 22) ∷
    with_kind 33 (codes "row_count") Int (Some 22) ∷
    with_kind 34 (codes "column_count") Int (Some 22) ∷
    with_kind 35 (codes "auto_complete") Text (Some 22) ∷
    with_kind 36 (codes "container") Node (Some 23) ∷
    with_kind 37 (codes "scroll_x") Int (Some 23) ∷
    with_kind 38 (codes "scroll_y") Int (Some 23) ∷
    []

-- how many rows a version has
abbrev pub role_count : Version → ℕ
role_count One = 28
role_count Two = 36

abbrev pub state_count : Version → ℕ
state_count One = 8
state_count Two = 12

abbrev pub key_count : Version → ℕ
key_count One = 24
key_count Two = 38
