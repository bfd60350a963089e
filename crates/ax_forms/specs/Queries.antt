-- Queries.
use Rattle.std.specs.Prelude.{ℕ, [], ◌∷◌, codes, if◌then◌else◌, Option, unwrap_or, Result, Ok, bytes_eq}
use Rattle.serde_json.specs.Data.{Data}
use Rattle.serde_json.specs.Find.{get}
use Rattle.ax_attrs.specs.declared.table.Version.{Version}
use Rattle.ax_base.specs.declared.position.Place.{Place}
use Rattle.ax_base.specs.declared.position.Pos.{Pos}
use Rattle.ax_base.specs.declared.position.Unit.{Unit as Step}
use Rattle.ax_base.specs.declared.position.Unit.TheVariants as unit
use Rattle.ax_base.specs.declared.position.Way.{Way}
use Rattle.ax_base.specs.declared.position.Way.TheVariants as way
use Rattle.ax_ask.specs.declared.query.Query.{Query}
use Rattle.ax_ask.specs.declared.query.Query.TheVariants as query
use Rattle.ax_ask.specs.declared.query.QueryName.{QueryName}
use Rattle.ax_ask.specs.declared.query.QueryName.TheVariants as names
use Rattle.ax_ask.specs.Words.{query_named}
use Rattle.ax_ask.specs.declared.query.TimedQuery.{TimedQuery}
use Rattle.ax_json.specs.declared.refusal.Fault.TheVariants.{BadName}
use Rattle.ax_json.specs.Refused.{Refusal, ◌>>=◌, within}
use Rattle.ax_json.specs.Walk.{refused, present, dot, number_in, int_of, node_id, tree_id, str_of, known, required, optional, tag_of}
use Rattle.ax_forms.specs.declared.query.PlaceQuery.{PlaceQuery}
use Rattle.ax_forms.specs.declared.query.PlaceQuery.TheVariants as asks
use Rattle.ax_forms.specs.declared.query.PositionQuery.{PositionQuery}
use Rattle.ax_forms.specs.declared.query.PositionQuery.TheVariants as asks_at
use Rattle.ax_forms.specs.declared.query.Sought.{Sought}
use Rattle.ax_forms.specs.declared.query.Sought.TheVariants as seeks
use Rattle.ax_forms.specs.declared.query.PairQuery.{PairQuery}
use Rattle.ax_forms.specs.declared.query.PairQuery.TheVariants as asks_between
use Rattle.ax_forms.specs.Places.{position_of}

-- how many packets are to be received before
unfoldable pub after_of : Option Data → Result ℕ Refusal
after_of found = do
  after ← optional (number_in 0 1000000) (codes "after") found
  Ok (unwrap_or after 0)

abbrev pub asked : PlaceQuery → Place → Query
asked asks.Node p = query.Node p
asked asks.Parent p = query.Parent p
asked asks.Children p = query.Children p
asked asks.Next p = query.Next p
asked asks.Prev p = query.Prev p
asked asks.Bounds p = query.Bounds p
asked asks.UParent p = query.UParent p
asked asks.UChildren p = query.UChildren p
asked asks.UNext p = query.UNext p
asked asks.UPrev p = query.UPrev p
asked asks.UText p = query.UText p

abbrev pub timed : ℕ → Query → TimedQuery
timed after q = record { after = after; query = q }

unfoldable pub place_query : PlaceQuery → Data → Result TimedQuery Refusal
place_query name d = do
  _ ← known (codes "q" ∷ codes "after" ∷ codes "tree" ∷ codes "node" ∷ []) d
  after ← after_of (get (codes "after") d)
  tree ← required tree_id (codes "tree") (get (codes "tree") d)
  node ← required node_id (codes "node") (get (codes "node") d)
  Ok (timed after (asked name (record { tree = tree; node = node })))

unfoldable pub hit_query : Data → Result TimedQuery Refusal
hit_query d = do
  _ ← known (codes "q" ∷ codes "after" ∷ codes "x" ∷ codes "y" ∷ []) d
  after ← after_of (get (codes "after") d)
  x ← required int_of (codes "x") (get (codes "x") d)
  y ← required int_of (codes "y") (get (codes "y") d)
  Ok (timed after (query.Hit (record { x = x; y = y })))

unfoldable pub focus_query : Data → Result TimedQuery Refusal
focus_query d = do
  _ ← known (codes "q" ∷ codes "after" ∷ []) d
  after ← after_of (get (codes "after") d)
  Ok (timed after query.Focus)

abbrev pub asked_at : PositionQuery → Pos → Query
asked_at asks_at.Offset p = query.Offset p
asked_at asks_at.Leaf p = query.Leaf p
asked_at asks_at.Up p = query.Up p

unfoldable pub position_query : PositionQuery → Data → Result TimedQuery Refusal
position_query name d = do
  _ ← known (codes "q" ∷ codes "after" ∷ codes "at" ∷ []) d
  after ← after_of (get (codes "after") d)
  at ← required position_of (codes "at") (get (codes "at") d)
  Ok (timed after (asked_at name at))

abbrev pub asked_between : PairQuery → Pos → Pos → Query
asked_between asks_between.Compare p q = query.Compare p q
asked_between asks_between.Text p q = query.Text p q

unfoldable pub pair_query : PairQuery → Data → Result TimedQuery Refusal
pair_query name d = do
  _ ← known (codes "q" ∷ codes "after" ∷ codes "at" ∷ codes "to" ∷ []) d
  after ← after_of (get (codes "after") d)
  at ← required position_of (codes "at") (get (codes "at") d)
  to ← required position_of (codes "to") (get (codes "to") d)
  Ok (timed after (asked_between name at to))

unfoldable pub unit_of : Data → Result Step Refusal
unit_of d = do
  name ← str_of d
  if bytes_eq name (codes "char") then Ok unit.Char else (if bytes_eq name (codes "word") then Ok unit.Word else (if bytes_eq name (codes "leaf") then Ok unit.Leaf else refused BadName []))

unfoldable pub way_of : Data → Result Way Refusal
way_of d = do
  name ← str_of d
  if bytes_eq name (codes "next") then Ok way.Next else (if bytes_eq name (codes "prev") then Ok way.Prev else refused BadName [])

unfoldable pub move_query : Data → Result TimedQuery Refusal
move_query d = do
  _ ← known (codes "q" ∷ codes "after" ∷ codes "at" ∷ codes "unit" ∷ codes "way" ∷ []) d
  after ← after_of (get (codes "after") d)
  at ← required position_of (codes "at") (get (codes "at") d)
  by ← required unit_of (codes "unit") (get (codes "unit") d)
  way ← required way_of (codes "way") (get (codes "way") d)
  Ok (timed after (query.Move at by way))

-- what a query is asked of
abbrev pub subject_of : QueryName → Sought
subject_of names.Node = seeks.Place asks.Node
subject_of names.Parent = seeks.Place asks.Parent
subject_of names.Children = seeks.Place asks.Children
subject_of names.Next = seeks.Place asks.Next
subject_of names.Prev = seeks.Place asks.Prev
subject_of names.Bounds = seeks.Place asks.Bounds
subject_of names.UParent = seeks.Place asks.UParent
subject_of names.UChildren = seeks.Place asks.UChildren
subject_of names.UNext = seeks.Place asks.UNext
subject_of names.UPrev = seeks.Place asks.UPrev
subject_of names.UText = seeks.Place asks.UText
subject_of names.Hit = seeks.Hit
subject_of names.Focus = seeks.Focus
subject_of names.Offset = seeks.Position asks_at.Offset
subject_of names.Leaf = seeks.Position asks_at.Leaf
subject_of names.Up = seeks.Position asks_at.Up
subject_of names.Compare = seeks.Pair asks_between.Compare
subject_of names.Text = seeks.Pair asks_between.Text
subject_of names.Move = seeks.Move

unfoldable pub query_as : Sought → Data → Result TimedQuery Refusal
query_as (seeks.Place name) d = place_query name d
query_as seeks.Hit d = hit_query d
query_as seeks.Focus d = focus_query d
query_as (seeks.Position name) d = position_query name d
query_as (seeks.Pair name) d = pair_query name d
query_as seeks.Move d = move_query d

-- A query's members are known once its name is read.
unfoldable pub query_of : Version → Data → Result TimedQuery Refusal
query_of version d = do
  name ← tag_of (codes "q") d
  query ← within (dot (codes "q")) (present BadName (query_named version name))
  query_as (subject_of query) d
