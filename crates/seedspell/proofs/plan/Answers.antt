-- All of the answer was taken, or some of it, and then the complaint is offered.
use Rattle.std.proofs.Common.{◌≡◌, sym, true, false, Option, List, ℕ, Result, Ok, Err, is_err}
use Rattle.std.proofs.KnownBytes.{Keeps-refl}
use Rattle.answer.specs.Answer.{Prints, Owes}
use Rattle.seedspell.specs.declared.output.CutShort.{CutShort}
use Rattle.seedspell.specs.Program.{OutputFits, OutputPut, Begins, Plans, whole, part}
use Rattle.seedspell.proofs.plan.Goals as goal

module _ (t out : List ℕ) (p : Prints t out) (owed : Owes p) (o o' e : Option (List ℕ)) (complaint : List ℕ) where
  all_taken : (r : Result (Unit {0}) CutShort) → is_err r ≡ false → OutputPut o o' out r → Plans t o o' e e complaint
  all_taken (Ok u) h put = whole out p owed put (Keeps-refl e)
  all_taken (Err x) h put = absurd (cc)

  some_taken : (e' : Option (List ℕ)) (r : Result (Unit {0}) CutShort) → is_err r ≡ true → OutputFits out r → OutputPut o o' out r → Begins e e' complaint
      → Plans t o o' e e' complaint
  some_taken e' (Ok u) h fits put said = absurd (cc)
  some_taken e' (Err x) h fits put said = part out p owed x.0 fits put said

pub returns-else-is_err : goal.returns-else-is_err
returns-else-is_err g c =
    let answer = c.answer_bytes-n.ensures in
    let wrote = c.write_answer.ensures in
    all_taken _ _ answer.prints answer.owes _ _ _ _ _ (sym c.if-is_err.ensures.value) wrote.put

pub returns-then-is_err : goal.returns-then-is_err
returns-then-is_err g c =
    let answer = c.answer_bytes-n.ensures in
    let wrote = c.write_answer.ensures in
    some_taken _ _ answer.prints answer.owes _ _ _ _ _ _ (sym c.if-is_err.ensures.value) wrote.fits wrote.put c.complain.ensures
