use native.Mathlib.Omega.{arith}
use mathlib.Core.Path.{◌≡◌, sym, ap, ◌∙◌}
use Rattle.rules.specs.Counted.{Counted}
use mathlib.Core.Bool.{Bool}
use Rattle.rules_laws.proofs.Kmer.{ne-known}
use Rattle.rules_laws.proofs.Scan.{ask-is, ask-one, ask-none}
use Rattle.kmer.specs.Kmer.{kmer_of}
use Rattle.rules.specs.Set.{set_of}
use Rattle.set.proofs.Among.{place-solid}
use Rattle.set.proofs.Opened.{set-count}
use Rattle.set.proofs.ready.KmerSet.ask.Goals as goal

pub returns-then-kmer-ne0 : goal.returns-then-kmer-ne0
unfolding kmer_of
returns-then-kmer-ne0 c =
    let unknown : c.args.kmer.unknown ≡ 0 → ⊥ = λ e. omega arith in
    let e = ask-none _ _ (ne-known _ unknown) in
    record { solid = sym (ap (λ (t : Counted Bool). t.answer) e); lookups = sym (ap (λ (t : Counted Bool). t.lookups) e) }

pub returns : goal.returns
unfolding kmer_of
returns c =
    let s = c.args.self.now in
    let known : c.args.kmer.unknown ≡ 0 = omega arith in
    let solid = place-solid (set_of s.bytes.now) c.args.kmer.code _ _ (s.ready.n_is ∙ sym (set-count s.bytes.now)) c.place_of-place.ensures in
    record { solid = solid ∙ sym (ask-is _ _ known); lookups = sym (ask-one _ _ known) }
