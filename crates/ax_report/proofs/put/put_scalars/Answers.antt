use Rattle.std.proofs.Common.{◌≡◌, ap, ◌∙◌, arith, flat_map, encode_utf8_all}
use Rattle.std.proofs.lemmas.Grind.{common_steps}
use Rattle.ax_run_rules.specs.Writing.{quoted_scalar}
use Rattle.ax_report.specs.Strings.{byte_text}
use Rattle.ax_report.proofs.StringLemmas.{escaped_bytes}
use Rattle.ax_report.proofs.put.put_scalars.Goals as goal

pub returns-clause-ok : goal.returns-clause-ok
returns-clause-ok c =
    let e : flat_map byte_text c.as_bytes-bytes.result.now ≡ encode_utf8_all (flat_map quoted_scalar c.args.text.now) =
    ap (flat_map byte_text) c.as_bytes-bytes.ensures.value ∙ escaped_bytes _ _ c.as_str.utf8 c.as_str.ensures in
    grind (arith, common_steps)
