use mathlib.Core.Path.{◌≡◌, sym, ◌∙◌}
use lib.ListN.{length}
use Rattle.rules.specs.Set.{set_of}
use Rattle.set.proofs.Opened.{set-count}
use Rattle.set.proofs.Among.{place_found, place_none}
use Rattle.set.proofs.ready.KmerSet.get.Goals.{Start}
use Rattle.set.proofs.ready.KmerSet.get.Goals as goal

count_is : (c : Start) → let s = c.args.self.now in s.head.n ≡ length (set_of s.bytes.now).keys
count_is c = let s = c.args.self.now in s.ready.n_is ∙ sym (set-count s.bytes.now)

pub returns-then-place-self : goal.returns-then-place-self
returns-then-place-self c = sym (place_found _ _ _ _ (count_is (goal.at.returns-then-place-self c).Start) c.place_of-place.ensures c.if-place-self.true)

pub returns-else-place-self : goal.returns-else-place-self
returns-else-place-self c = sym (place_none _ _ _ _ (count_is (goal.at.returns-else-place-self c).Start) c.place_of-place.ensures c.if-place-self.false)
