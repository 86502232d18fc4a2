-- Answers in turn: what they cost, and what a final answer says of the first.
use Prim.Native.Nat.{ℕ, ◌+◌, ◌≤◌}
use native.Mathlib.Omega.{arith}
use native.Mathlib.Nat.{le_refl}
use mathlib.Core.Path.{◌≡◌, refl}
use mathlib.Core.Option.{Option, none, some}
use Rattle.rules.specs.Counted.{Try, after, refuse, next, ◌>>=◌, ◌>>◌}

module _ {A B : Type 0} (m : Try A) (f : A → Try B) where
  -- the second part costs at most l, whatever it is given by the first
  pub bind-cost-some : (l : ℕ) → ((a : A) → m.answer ≡ some a → (f a).lookups ≤ l) → (m >>= f).lookups ≤ m.lookups + l
  unfolding ◌>>=◌ next refuse after
  bind-cost-some l h = go m.answer refl
    where
      go : (o : Option A) → m.answer ≡ o → m.lookups + (next o f).lookups ≤ m.lookups + l
      go none e = omega arith
      go (some a) e = omega (arith, h a e)

  pub bind-cost : (l : ℕ) → ((a : A) → (f a).lookups ≤ l) → (m >>= f).lookups ≤ m.lookups + l
  bind-cost l h = bind-cost-some l (λ a e. h a)

  -- both parts answered
  pub bind-some : (b : B) → (m >>= f).answer ≡ some b → (a : A) × (m.answer ≡ some a) × ((f a).answer ≡ some b)
  unfolding ◌>>=◌ next refuse after
  bind-some b e = go m.answer refl e
    where
      go : (o : Option A) → m.answer ≡ o → (next o f).answer ≡ some b → (a : A) × (m.answer ≡ some a) × ((f a).answer ≡ some b)
      go none p q = absurd (let z : ◌≡◌ {A = ℕ} 0 1 = cc in omega arith)
      go (some a) p q = (a, p, q)

  -- the answer is the second part's, where the first is known
  pub bind_is : (a : A) → m.answer ≡ some a → (m >>= f).answer ≡ (f a).answer
  unfolding ◌>>=◌ next after
  bind_is a e = rw e

  -- both parts answered, with what both cost
  pub bind-both : (b : B) → (m >>= f).answer ≡ some b
      → (a : A) × (m.answer ≡ some a) × ((f a).answer ≡ some b) × ((m >>= f).lookups ≡ m.lookups + (f a).lookups)
  unfolding ◌>>=◌ next after
  bind-both b e = (let w = bind-some b e in (w.0, w.1, w.2, cost w.0 w.1))
    where
      cost : (a : A) → m.answer ≡ some a → (m >>= f).lookups ≡ m.lookups + (f a).lookups
      cost a q = rw q

pub then-cost : {A B : Type 0} (m : Try A) (n : Try B) → (m >> n).lookups ≤ m.lookups + n.lookups
unfolding ◌>>◌
then-cost m n = bind-cost m (λ a. n) n.lookups (λ a. le_refl n.lookups)
