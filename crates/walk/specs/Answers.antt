-- The walk's contract.
use Rattle.std.specs.Prelude.{ℕ, List}
use Rattle.taskset.specs.Calls.{WalkAnswers}
use Rattle.taskset.specs.DemandThree.{WalkOwes}
use Rattle.taskset.specs.Answers.{WalkAnswer}

-- THE CALL'S CONTRACT: the answer is document 01's, and it owes what demand 3's endless walk says of it.
pub record Walked (s P : List ℕ) (a : WalkAnswer) : Type 0 where
  pub answers : WalkAnswers s P a
  pub owes : WalkOwes s P a
