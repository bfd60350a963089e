use Rattle.std.proofs.Common.{sym, ◌∙◌, arith, append-nil}
use Rattle.ax_rules.specs.Stitched.{stitched}
use Rattle.ax_report.proofs.BufferLemmas.{begins_same, err_more, extends_on}
use Rattle.ax_report.proofs.CombinedLemmas.{as_many, row_more, rows_done}
use Rattle.ax_report.proofs.combined.put_rows.Goals as goal

pub loop-at-init : goal.loop-at-init
loop-at-init g c = record { grown = begins_same c.args.out.now.items; told = λ f i. sym (append-nil c.args.out.now.items) }

pub loop-at-preserved : goal.loop-at-preserved
loop-at-preserved g c = record {
  grown = extends_on c.args.out.now.items c.loop-at.out.items c.put_row.new.out.items c.loop-at.invariant.grown c.in_ok-put_row.ensures.grown;
  told = λ f i.
      let n = as_many f _ _ i in
      row_more (stitched f) c.loop-at.at c.args.out.now.items c.loop-at.out.items c.put_row.new.out.items (omega (arith, n)) (c.loop-at.invariant.told f i) (c.in_ok-put_row.ensures.ok f i);
}

pub returns-in_err-put_row-clause-err : goal.returns-in_err-put_row-clause-err
returns-in_err-put_row-clause-err g c =
    err_more c.from_residual.result c.args.out.now.items c.loop-at.out.items c.put_row.new.out.items c.loop-at.invariant.grown c.in_err-put_row.ensures.err

pub returns-clause-ok : goal.returns-clause-ok
returns-clause-ok g c f i =
    let n = as_many f _ _ i in
    rows_done (stitched f) c.loop-at.at c.args.out.now.items c.loop-at.out.items (omega (arith, n)) (c.loop-at.invariant.told f i)
