-- Figures by the rule of note 1, worked out in Python and computed here of the definitions: the first states and draws of
-- seed 0, whole sets, and either side of each refusal.
-- Assumes nothing.
use mathlib.Core.Path.{◌≡◌, refl}
use mathlib.Core.Bool.{true≢false}
use mathlib.Core.List.{[], ◌∷◌}
use mathlib.Core.Logic.{inl, inr}
use native.Mathlib.Omega.{arith}
use Rattle.layout.specs.Words.{head_kinds, extra_kinds}
use Rattle.taskset.specs.Refusals.{Accepts, Refuses}
use Rattle.draws.specs.Generated.{next, state_after, draw, drawn_period, front_words, generated}
use Rattle.draws.specs.Calls.{generator_checks}

pub record Cases : Type 0 where
  -- The product and the sum wrap, the product first.
  pub states : state_after 0 1 ∷ state_after 0 2 ∷ state_after 0 3 ∷ [] ≡ 1013904223 ∷ 1196435762 ∷ 3519870697 ∷ []
  -- A draw is of the new state.
  pub draws : draw 0 0 ∷ draw 0 1 ∷ draw 0 2 ∷ [] ≡ 15470 ∷ 18256 ∷ 53708 ∷ []
  -- Entries count from 0, and go on from 0 at 8.
  pub entries : drawn_period 0 ∷ drawn_period 7 ∷ drawn_period 8 ∷ drawn_period 15470 ∷ [] ≡ 10 ∷ 400 ∷ 10 ∷ 200 ∷ []
  -- Whole sets.
  pub set_0_1 : generated 0 1 ≡ 100 ∷ 0 ∷ 5 ∷ 100 ∷ 200 ∷ 300 ∷ 400 ∷ 500 ∷ 1 ∷ 200 ∷ 257 ∷ 0 ∷ 7 ∷ 28 ∷ 63 ∷ 112 ∷ 175 ∷ []
  pub set_7_2 : generated 7 2
      ≡ 100 ∷ 0 ∷ 5 ∷ 100 ∷ 200 ∷ 300 ∷ 400 ∷ 500 ∷ 2 ∷ 10 ∷ 867 ∷ 0 ∷ 2 ∷ 8 ∷ 18 ∷ 32 ∷ 50 ∷ 200 ∷ 234 ∷ 0 ∷ 7 ∷ 28 ∷ 63 ∷ 112 ∷ 175 ∷ []
  pub set_highest_seed : generated 4294967295 1
      ≡ 100 ∷ 0 ∷ 5 ∷ 100 ∷ 200 ∷ 300 ∷ 400 ∷ 500 ∷ 1 ∷ 100 ∷ 312 ∷ 0 ∷ 8 ∷ 32 ∷ 72 ∷ 128 ∷ 200 ∷ []
  -- Task counts of 0 and 33 are refused, also where the list is short, with place 0.
  pub no_task : Refuses (generator_checks 7 0 0) 2 0
  pub tasks_33 : Refuses (generator_checks 7 33 0) 2 0
  -- One task needs 17 words, 32 need 265.
  pub one_short : Refuses (generator_checks 7 1 16) 6 17
  pub one_enough : Accepts (generator_checks 7 1 17)
  pub most_short : Refuses (generator_checks 7 32 264) 6 265
  pub most_enough : Accepts (generator_checks 7 32 265)

pub cases : Cases
unfolding next state_after draw front_words generated head_kinds extra_kinds
cases = record {
  states = refl;
  draws = refl;
  entries = refl;
  set_0_1 = refl;
  set_7_2 = refl;
  set_highest_seed = refl;
  no_task = inl (refl, (refl, refl));
  tasks_33 = inl (refl, (refl, refl));
  one_short = inr ((λ k h. true≢false h.0), inl (refl, (omega arith, refl)));
  one_enough = ((λ k h. true≢false h.0), ((λ k h. omega (arith, h.0)), tt));
  most_short = inr ((λ k h. true≢false h.0), inl (refl, (omega arith, refl)));
  most_enough = ((λ k h. true≢false h.0), ((λ k h. omega (arith, h.0)), tt));
}
