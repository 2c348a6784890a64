-- What the reader, the writer and the program's call leave in the list lent to them: its laws, and that it is one.
-- Assumes nothing.
use Rattle.std.specs.Prelude.{Ok, Err}
use Prim.Native.Nat.{ℕ, ◌≤◌}
use mathlib.Core.Path.{◌≡◌, sym, ap, ◌∙◌}
use mathlib.Core.List.{List, [], ◌∷◌, ◌++◌}
use native.Mathlib.Omega.{arith}
use lib.ListN.{length, take, drop, length-append, length-drop}
use lib.Seq.{take_at}
use Rattle.taskset.specs.Calls.{Copied}
use Rattle.taskset.specs.Answers.{CopyAnswer}

pub record SameCopied (a b : CopyAnswer) (d₁ d₂ : List ℕ) : Type 0 where
  pub answer : a ≡ b
  pub list : d₁ ≡ d₂

-- From the count and the list.
pub copied : (ws d d' : List ℕ) (n : ℕ) → n ≡ length ws → d' ≡ ws ++ drop (length ws) d → Copied ws d d' (Ok n)
copied ws d d' n e l = record { values_are = ap (λ (k : ℕ). k ∷ []) e; list_is = l }

module _ (ws d d' : List ℕ) (n : ℕ) (c : Copied ws d d' (Ok n)) where
  pub count_is : n ≡ length ws
  count_is = let e = c.values_are in cc

  -- What was written stands in front.
  pub front_is : take n d' ≡ ws
  front_is = ap (take n) c.list_is ∙ take_at ws (drop (length ws) d) n (sym count_is)

  pub count-within : n ≤ length d'
  count-within = omega (arith, count_is, simp length-append at (ap length c.list_is))

  -- "what lies after stays": the list is as long as it was.
  pub rest-stays : length ws ≤ length d → length d' ≡ length d
  rest-stays fits = omega (arith, simp (length-append, length-drop) at (ap length c.list_is))

pub copied_one : (ws d d₁ d₂ : List ℕ) (a b : CopyAnswer) → Copied ws d d₁ a → Copied ws d d₂ b → SameCopied a b d₁ d₂
copied_one ws d d₁ d₂ (Ok n) (Ok k) x y = record {
  answer = ap Ok (count_is ws d d₁ n x ∙ sym (count_is ws d d₂ k y));
  list = x.list_is ∙ sym y.list_is;
}
copied_one ws d d₁ d₂ (Err r) b x y = let e = x.values_are in let z : ◌≡◌ {A = ℕ} 0 1 = cc in absurd (omega arith)
copied_one ws d d₁ d₂ (Ok n) (Err r) x y = let e = y.values_are in let z : ◌≡◌ {A = ℕ} 0 1 = cc in absurd (omega arith)
