-- The readers' queries.
use Rattle.std.specs.Prelude.{List, [], nat_le, if◌then◌else◌, Result}
use Rattle.serde_json.specs.Data.{Data}
use Rattle.serde_json.specs.Events.{items_len}
use Rattle.ax_attrs.specs.declared.table.Version.{Version}
use Rattle.ax_ask.specs.declared.query.TimedQuery.{TimedQuery}
use Rattle.ax_json.specs.declared.refusal.Fault.TheVariants.{BadCount}
use Rattle.ax_json.specs.Refused.{Refusal, ◌>>=◌}
use Rattle.ax_json.specs.Walk.{refused, array_of, list_of, each}
use Rattle.ax_forms.specs.Queries.{query_of}

-- at most 16 readers
unfoldable pub readers_of : Version → Data → Result (List (List TimedQuery)) Refusal
readers_of version d = do
  items ← array_of d
  if nat_le (items_len items) 16 then each (list_of (query_of version)) 0 items else refused BadCount []
