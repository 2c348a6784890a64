use native.Mathlib.Omega.{arith}
use Rattle.table.proofs.Rows.{row_start, row_skip, row_relaxable, row_turn, row_end}
use Rattle.table.proofs.Options.row.Goals as goal
use Rattle.table.proofs.Options.row.Goals.{then-c-self, else-c-self}

pub loop-r-init : goal.loop-r-init
loop-r-init c = (row_start c.args.self.framed c.requires (c.fill.ensures.after (λ y h. h)), omega arith)

pub relax-requires : goal.relax-requires
relax-requires c = row_relaxable c.args.self.framed c.requires c.loop-r.r c.loop-r.invariant.0 _

pub loop-r-preserved : goal.loop-r-preserved
loop-r-preserved c = let t = c.loop-r.invariant.0 in
    elim c.if-c-self.branch [
      | then-c-self w ↦ (rw w.words-is (row_turn c.args.self.framed c.requires c.loop-r.r t (omega arith) w.relax.ensures), omega arith)
      | else-c-self w ↦ (rw w.words-is (row_skip c.args.self.framed c.requires c.loop-r.r t w.if-c-self.false), omega arith)
    ]

pub returns : goal.returns
returns c = row_end c.args.self.framed c.requires c.loop-r.r c.loop-r.invariant.0 (omega arith)

pub returns-after-c-self : goal.returns-after-c-self
returns-after-c-self c = let t = c.loop-r.invariant.0 in
    elim c.if-c-self.branch [
      | then-c-self w ↦
          rw w.words-is (row_end c.args.self.framed c.requires _ (row_turn c.args.self.framed c.requires c.loop-r.r t (omega arith) w.relax.ensures) (omega arith))
      | else-c-self w ↦
          rw w.words-is (row_end c.args.self.framed c.requires _ (row_skip c.args.self.framed c.requires c.loop-r.r t w.if-c-self.false) (omega arith))
    ]
