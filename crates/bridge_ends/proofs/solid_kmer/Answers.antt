use Rattle.std.proofs.Common.{◌≡◌, sym, ap, ◌∙◌}
use Rattle.rules.specs.Set.{set_of}
use Rattle.rules_bridge.specs.Bridge.{solid_code}
use Rattle.set.specs.Found.{is_key}
use Rattle.set.proofs.Among.{found-solid}
use Rattle.bridge_ends.proofs.Ends.{code-small, solid-small, solid-large, known-code, known-all}
use Rattle.bridge_ends.proofs.solid_kmer.Goals.{After-get}
use Rattle.bridge_ends.proofs.solid_kmer.Goals as goal

pub returns-then-set-code : goal.returns-then-set-code
returns-then-set-code c =
    let s = c.args.set.now in
    solid-large s.bytes.now s.head.k c.args.code s.ready.k_is s.head.shifts.mask_is c.if-set-code.true

pub kmer_of-kmer-requires : goal.kmer_of-kmer-requires
kmer_of-kmer-requires c =
    let s = c.args.set.now in
    code-small s.head.k s.head.shifts.mask_is c.if-set-code.false

pub get-requires : goal.get-requires
get-requires c =
    let e = c.kmer_of-kmer.ensures in
    (e.kmer, known-all c.kmer_of-kmer.result e.is)

-- The code is solid where a key is found.
asked : (c : After-get) → let a = c.args in
    is_key c.get.result ≡ solid_code (set_of a.set.now.bytes.now) a.code
asked c =
    let s = c.args.set.now in
    let e = c.kmer_of-kmer.ensures in
    found-solid c.get.result (set_of s.bytes.now) _ c.get.ensures
    ∙ known-code (set_of s.bytes.now) c.kmer_of-kmer.result e.is
    ∙ sym (solid-small s.bytes.now s.head.k c.args.code s.ready.k_is (code-small s.head.k s.head.shifts.mask_is c.if-set-code.false))

pub returns-in_err-get : goal.returns-in_err-get
returns-in_err-get c = rw c.from_residual.ensures (sym (asked (goal.at.returns-in_err-get c).After-get) ∙ ap is_key c.in_err-get.was)

pub returns : goal.returns
returns c = (sym (asked (goal.at.returns c).After-get) ∙ ap is_key c.in_ok-get.was, c.kmer_of-kmer.ensures)
