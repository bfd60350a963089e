-- What is kept of a forest after a history: its trees, and of each tree how often it was asked for and its last applied pass.
use Rattle.std.specs.Prelude.{ℕ, ◌≡◌, true, false, if◌then◌else◌, List, Option, Some, None}
use Rattle.ax_trees.specs.Lists.{contains}
use Rattle.ax_tree.specs.declared.packet.HEntry.{HEntry}
use Rattle.ax_tree.specs.Forest.{Forest}
use Rattle.ax_rules.specs.Histories.{token_of, applied_pass}
use Rattle.ax_rules.specs.Mirrors.{built_forest_of}
use Rattle.ax_forest.specs.declared.tally.Tally.{Tally}
use Rattle.ax_forest.specs.ById.{at_id}

-- after the history h this is the tally of the tree t
pub record IsTallyOf (h : List HEntry) (t : ℕ) (y : Tally) : Type 0 where
  pub token : y.token.0 ≡ token_of h t
  pub at : y.at.0 ≡ applied_pass h t

-- a tree of ts has its tally, and no other id has one
abbrev pub IsTallied : List ℕ → List HEntry → ℕ → Option Tally → Type 0
IsTallied ts h t None = contains ts t ≡ false
IsTallied ts h t (Some y) = (contains ts t ≡ true) × IsTallyOf h t y

-- the forest and the tallies are those of the trees ts after the history h
pub record IsPast (f : Forest) (ys : List (Option Tally)) (ts : List ℕ) (h : List HEntry) : Type 0 where
  pub stands : f ≡ built_forest_of ts h
  pub tallied : (t : ℕ) → IsTallied ts h t (at_id ys t)

abbrev pub first_tally : ℕ → Tally
first_tally t = record { token = record { 0 = 0 }; at = record { 0 = 0 } }

-- the last applied pass and the token of a tree, 0 of a strange one
abbrev pub pass_said : List ℕ → List HEntry → ℕ → ℕ
pass_said ts h t = if contains ts t then applied_pass h t else 0

abbrev pub token_said : List ℕ → List HEntry → ℕ → ℕ
token_said ts h t = if contains ts t then token_of h t else 0
