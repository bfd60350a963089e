use Rattle.std.proofs.Common.{◌≡◌, subst, drop, take, encode_utf8_all, IfOk}
use Rattle.std.specs.Str.{chars}
use Rattle.std.specs.String.{string_bytes}
use Rattle.std.proofs.lemmas.Iterator.{text_from_collect, YieldsList-from_take, YieldsList-from_chars}
use Rattle.std.proofs.lemmas.Iterator.Adapters.{YieldsList-from_skip}
use Rattle.ax_base.proofs.TextLemmas.{chars-spelled}
use Rattle.ax_base.proofs.text.part_of.Goals as goal

pub returns : goal.returns
returns c =
    let spelled : string_bytes c.in_ok-part.part ≡ encode_utf8_all (take c.args.count (drop c.args.start (chars c.args.text.now))) =
    subst (λ r. IfOk r (λ s. string_bytes s ≡ encode_utf8_all (take c.args.count (drop c.args.start (chars c.args.text.now))))) c.in_ok-part.was
    (text_from_collect _ c.collect.ensures.ran (YieldsList-from_take _ (YieldsList-from_skip _ (YieldsList-from_chars c.args.text.now c.utf8.text cc) cc) cc)) in
    subst (λ cs. IfOk c.of_string.result (λ part. part ≡ cs)) (chars-spelled c.in_ok-part.part _ spelled) c.of_string.ensures
