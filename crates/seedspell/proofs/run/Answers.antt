-- What was read is planned: all that there was, or 8,192 bytes.
use Rattle.std.proofs.Common.{arith, length-take, length-take-le}
use Rattle.std.proofs.KnownBytes.{Keeps-refl}
use Rattle.seedspell.specs.Program.{Runs, planned, unread}
use Rattle.seedspell.proofs.WholeInput.{answers}
use Rattle.seedspell.proofs.run.Goals as goal

pub returns-in-Ok : goal.returns-in-Ok
returns-in-Ok g c =
    let read = c.in-Ok.ensures in
    let long = length-take-le c.in-Ok.n c.read_input.new.bytes read.fits.1 in
    let runs : Runs _ _ _ _ _ _ _ _ =
    planned _
    (record { taken = read.taken.0; most = omega (arith, long, read.fits.0); ended = λ few. read.taken.1 (omega (arith, long, few)) })
    c.plan.ensures in
    record { runs = runs; answers = answers _ _ _ _ _ _ _ _ runs }

pub returns-in-Err : goal.returns-in-Err
returns-in-Err g c =
    let taken = c.in-Err.ensures.taken in
    let long = length-take taken.0 c.read_input.new.bytes in
    let runs : Runs _ _ _ _ _ _ _ _ = unread _ taken.2 (omega (arith, long, taken.1)) (Keeps-refl _) c.complain.ensures in
    record { runs = runs; answers = answers _ _ _ _ _ _ _ _ runs }
