-- The answer to what is planned of an input is the answer to all of it.
use Rattle.std.proofs.Common.{◌≡◌, ℕ, List, ◌++◌, take, None, Some, IfSome, inl, inr, sym, ap, ◌∙◌, subst, append-nil, take_all}
use Rattle.std.proofs.Math.Nat.{eq-or-lt_of_le}
use Rattle.std.proofs.lemmas.List.{take_at}
use Rattle.std.specs.Prelude.{Option}
use Rattle.answer.proofs.Outputs.{first_8192, owes}
use Rattle.answer.specs.Answer.{Prints}
use Rattle.seedspell.specs.Program.{Plans, whole, part, IsPlanned, Runs, planned, unread, Answers, answered, silent}

-- What is planned of a known input is its first 8,192 bytes.
planned_of : (x t : List ℕ) (i' : Option (List ℕ)) → IsPlanned (Some x) i' t → take 8192 x ≡ t
planned_of x t None h = absurd h.taken
planned_of x t (Some y) h =
    elim (eq-or-lt_of_le h.most) [
      | inl many ↦ ap (take 8192) h.taken ∙ take_at t y 8192 many
      | inr few ↦ let same : x ≡ t = h.taken ∙ ap (λ l. t ++ l) (h.ended few) ∙ append-nil t in ap (take 8192) same ∙ take_all 8192 t h.most
    ]

module _ (x t : List ℕ) (front : take 8192 x ≡ t) (o o' e e' : Option (List ℕ)) (line : List ℕ) where
  prints : (out : List ℕ) → Prints t out → Prints x out
  prints out p = (first_8192 x out).0 (subst (λ (u : List ℕ). Prints u out) (sym front) p)

  plans_all : Plans t o o' e e' line → Plans x o o' e e' line
  plans_all (whole out p q a k) = let all = prints out p in whole out all (owes x out all) a k
  plans_all (part out p q n less a b) = let all = prints out p in part out all (owes x out all) n less a b

pub answers : (i i' o o' e e' : Option (List ℕ)) (unreadable unwritable : List ℕ) → Runs i i' o o' e e' unreadable unwritable
    → IfSome i (λ x. Answers x o o' e e' unreadable unwritable)
answers None i' o o' e e' u w r = tt
answers (Some x) i' o o' e e' u w (planned t h p) = answered (plans_all x t (planned_of x t i' h) o o' e e' w p)
answers (Some x) i' o o' e e' u w (unread t c few k b) = silent k b
