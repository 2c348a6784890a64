-- What a sink of bytes keeps. Not part of what a reader must believe: the calls' own contracts name none of it.
use Rattle.std.specs.Prelude.{ℕ, List, [], ◌++◌}

-- fits s xs: s has room for xs; takes s xs t: s is t, once it has taken xs.
pub record SinkLaws {S : Type 0} (fits : S → List ℕ → Type 0) (takes : S → List ℕ → S → Type 0) : Type 0 where
  -- A sink that takes nothing stays as it is; one that takes bytes, and others behind them, takes them all.
  pub none : {s : S} → fits s [] → takes s [] s
  pub then : {s t u : S} {xs ys : List ℕ} → takes s xs t → takes t ys u → takes s (xs ++ ys) u
  -- Room for bytes is room for those in front; and once these are taken, for those behind.
  pub front : {s : S} (xs ys : List ℕ) → fits s (xs ++ ys) → fits s xs
  pub behind : {s t : S} {xs ys : List ℕ} → fits s (xs ++ ys) → takes s xs t → fits t ys
