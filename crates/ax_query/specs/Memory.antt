-- Which queries take memory: those whose reply is a list or a text, and moves by characters and words.
use Rattle.std.specs.Prelude.{Bool, true, false}
use Rattle.ax_ask.specs.declared.query.Query.{Query}
use Rattle.ax_ask.specs.declared.query.Query.TheVariants as queries
use Rattle.ax_moves.specs.Bounds as moves

abbrev pub takes_memory : Query → Bool
takes_memory (queries.Children p) = true
takes_memory (queries.UChildren p) = true
takes_memory (queries.UText p) = true
takes_memory (queries.Text x y) = true
takes_memory (queries.Move x u w) = moves.takes_memory u
takes_memory q = false
