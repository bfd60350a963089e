use Rattle.std.proofs.Common.{◌≡◌, rules}
use Rattle.ax_words.specs.Words.{command_of}
use Rattle.ax_top.proofs.Commands.{not_built, writes_usage}
use Rattle.ax_top.proofs.Words.{gen_range}
use Rattle.ax_top.specs.declared.top.Status.TheVariants.{WriteFault}
use Rattle.ax_top.proofs.top.calm_main.Goals as goal

pub make_and_run-requires-clause-some : goal.make_and_run-requires-clause-some
make_and_run-requires-clause-some g c =
    (gen_range c.args.words.now c.in-Ok-Some-Gen.field-0 c.in-Ok-Some-Gen.field-0-0 c.in-Ok-Some-Gen.seed c.in-Ok-Some-Gen.frames c.in-Ok-Some-Gen.ops c.in-Ok-Some-Gen.ensures.command c.in-Ok-Some-Gen.field-0-is
    c.in-Ok-Some-Gen.field-0-0-is).0

pub make_and_run-requires-clause-frames : goal.make_and_run-requires-clause-frames
make_and_run-requires-clause-frames g c =
    (gen_range c.args.words.now c.in-Ok-Some-Gen.field-0 c.in-Ok-Some-Gen.field-0-0 c.in-Ok-Some-Gen.seed c.in-Ok-Some-Gen.frames c.in-Ok-Some-Gen.ops c.in-Ok-Some-Gen.ensures.command c.in-Ok-Some-Gen.field-0-is
    c.in-Ok-Some-Gen.field-0-0-is).1.0

pub make_and_run-requires-clause-ops : goal.make_and_run-requires-clause-ops
make_and_run-requires-clause-ops g c =
    (gen_range c.args.words.now c.in-Ok-Some-Gen.field-0 c.in-Ok-Some-Gen.field-0-0 c.in-Ok-Some-Gen.seed c.in-Ok-Some-Gen.frames c.in-Ok-Some-Gen.ops c.in-Ok-Some-Gen.ensures.command c.in-Ok-Some-Gen.field-0-is
    c.in-Ok-Some-Gen.field-0-0-is).1.1

pub returns-in-Ok-clause-usage : goal.returns-in-Ok-clause-usage
returns-in-Ok-clause-usage g c = λ is.
    let whole = λ (w : c.finish.result ≡ WriteFault). let bad : ⊥ = cc in bad in (
      not_built (command_of c.args.words.now) (λ e. search rules) (λ e. search rules) (λ s f n e. search rules),
      rw c.as_bytes.ensures.value at (c.finish.ensures.whole whole).1,
    )

pub returns-in-Ok-clause-write : goal.returns-in-Ok-clause-write
returns-in-Ok-clause-write g c = λ is. (
  c.finish.ensures.fault is,
  writes_usage (command_of c.args.words.now) _ _ _ (not_built (command_of c.args.words.now) (λ e. search rules) (λ e. search rules) (λ s f n e. search rules)) (rw c.as_bytes.ensures.value at (c.finish.ensures.front is)),
)
