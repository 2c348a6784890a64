-- The lines that the program prints (document 01, 'The bracketed text': "All that it prints").
use Rattle.std.specs.Prelude.{ℕ, suc, List, [], ◌∷◌, ◌++◌}
use Rattle.text.specs.Text.{bytes, decimal}

-- `(plan (unit 1) (load 29 30) (energy 41))`: "The load line has the plan's load, then L."
unfoldable pub plan_line : (unit load hyper energy : ℕ) → List ℕ
plan_line unit load hyper energy =
    bytes "(plan (unit " ++ (decimal unit ++ (bytes ") (load " ++ (decimal load ++ (bytes " " ++ (decimal hyper ++
    (bytes ") (energy " ++ (decimal energy ++ bytes "))\n")))))))

-- A name and two numbers: the two lines that have just these.
abbrev pub pair_line : List ℕ → (first second : ℕ) → List ℕ
pair_line name first second = name ++ (decimal first ++ (bytes " " ++ (decimal second ++ bytes ")\n")))

-- `(rate 1 2)`: "A rate line has task number, then rate number."
unfoldable pub rate_line : (task rate : ℕ) → List ℕ
rate_line task rate = pair_line (bytes "(rate ") task rate

-- A line for each rate number of a plan, from a task number on.
abbrev pub rate_lines : ℕ → List ℕ → List ℕ
rate_lines task [] = []
rate_lines task (rate ∷ P) = rate_line task rate ++ rate_lines (suc task) P

-- `(walk (busy 29) (idle 1) (preempted 1))`
unfoldable pub walk_line : (busy idle preempted : ℕ) → List ℕ
walk_line busy idle preempted =
    bytes "(walk (busy " ++ (decimal busy ++ (bytes ") (idle " ++ (decimal idle ++
    (bytes ") (preempted " ++ (decimal preempted ++ bytes "))\n")))))

-- "For a refusal it prints only `(refused 7 0)`, with that number and place."
unfoldable pub refused_line : (number second : ℕ) → List ℕ
refused_line number second = pair_line (bytes "(refused ") number second
