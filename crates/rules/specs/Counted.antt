-- Document 01, "Counts": answers with all the lookups made for them, those of refused attempts too.
use Rattle.std.specs.Prelude.{ℕ, ◌+◌}
use Rattle.std.proofs.Math.Option.{Option, none, some}

infixl 20 ◌>>=◌
infixl 20 ◌>>◌
-- An answer and the lookups made for it.
pub record Counted (A : Type 0) : Type 0 where
  pub answer : A
  pub lookups : ℕ

-- What is sought or a refusal, with the lookups made.
abbrev pub Try : Type 0 → Type 0
Try A = Counted (Option A)

-- The same answer, after l lookups more.
unfoldable pub after : {A : Type 0} → ℕ → Counted A → Counted A
after l r = record { answer = r.answer; lookups = l + r.lookups }

unfoldable pub refuse : {A : Type 0} → Try A
refuse = record { answer = none; lookups = 0 }

unfoldable pub give : {A : Type 0} → A → Try A
give a = record { answer = some a; lookups = 0 }

-- Left to right, up to the first refusal.
unfoldable pub next : {A B : Type 0} → Option A → (A → Try B) → Try B
unfolding refuse
next none f = refuse
next (some a) f = f a

unfoldable pub ◌>>=◌ : {A B : Type 0} → Try A → (A → Try B) → Try B
unfolding after next
◌>>=◌ m f = after m.lookups (next m.answer f)

unfoldable pub ◌>>◌ : {A B : Type 0} → Try A → Try B → Try B
unfolding ◌>>=◌
◌>>◌ m n = m >>= (λ a. n)
