-- The counter as a sink. Not part of what a reader must believe.
use Rattle.std.specs.Prelude.{ℕ, ◌+◌, ◌^◌, ◌<◌, ◌≡◌, List, length}
use Rattle.std.proofs.Common.{arith}
use Rattle.std.proofs.Math.ListN.{length-append}
use Rattle.printer.specs.Sinks.{SinkLaws}
use Rattle.printer.specs.declared.Count.{Count}

-- The count is of 64 bits, and grows by as many bytes as are taken.
abbrev pub CountFits : Count → List ℕ → Type 0
CountFits s xs = s.bytes + length xs < 2 ^ 64

abbrev pub CountTakes : Count → List ℕ → Count → Type 0
CountTakes s xs t = t.bytes ≡ s.bytes + length xs

pub count_laws : SinkLaws CountFits CountTakes
count_laws = record {
  none = λ h. omega arith;
  then = λ {s} {t} {u} {xs} {ys} a b. omega (arith, length-append xs ys);
  front = λ {s} xs ys h. omega (arith, length-append xs ys);
  behind = λ {s} {t} {xs} {ys} h a. omega (arith, length-append xs ys);
}
