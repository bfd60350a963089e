use Rattle.std.proofs.Common.{◌≡◌, ap, sym, ◌∙◌, encode_utf8_all}
use Rattle.std.proofs.lemmas.Str.{encodes-chars}
use Rattle.ax_script.specs.ErrorText.{at_path}
use Rattle.ax_script.proofs.error_text.at_path.Goals as goal

pub returns : goal.returns
unfolding at_path
returns c =
    let e : c.as_str-path.result.now ≡ encode_utf8_all c.args.path.now = sym (encodes-chars _ c.as_str-path.utf8) ∙ ap encode_utf8_all c.as_str-path.ensures in
    rw (sym e) c.in_ok-text.ensures.ok
