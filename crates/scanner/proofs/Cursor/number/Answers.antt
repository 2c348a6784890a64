-- A number: 0, or a first digit and those after it.
-- Assumes nothing.
use mathlib.Core.Path.{refl, sym, ◌∙◌}
use native.Mathlib.Omega.{arith}
use Rattle.scanner.proofs.Classes.{no_digit, not_digit}
use Rattle.scanner.proofs.Places as laws
use Rattle.scanner.proofs.Cursor.number.Goals as goal

pub returns-in_default : goal.returns-in_default
returns-in_default c =
    let none = no_digit _ _ (not_digit _ _ c.step.result c.step.ensures c.in_default.not-Digit) in
    record { same = refl; answers = sym (laws.number-none _ _ none) }

pub returns-then-is_zero : goal.returns-then-is_zero
returns-then-is_zero c = record { same = refl; answers = sym (laws.number-zero _ _ _ c.in-Digit.ensures (omega (arith, c.in-Digit.ensures, c.if-is_zero.true))) }

pub returns : goal.returns
returns c = record {
  same = c.more.ensures.same;
  answers = c.more.ensures.answers ∙ sym (laws.number_on _ _ _ c.in-Digit.ensures (omega (arith, c.if-is_zero.false)));
}
