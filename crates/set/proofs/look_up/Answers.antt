use native.Mathlib.Omega.{arith}
use mathlib.Core.Path.{◌≡◌, refl, ap, ◌∙◌}
use Rattle.rules.specs.Set.{header_k, header_n, lookup, set_of}
use Rattle.rules.specs.Letters.{canonical}
use Prim.Native.Nat.{◌^◌, ◌≤◌, ◌<◌}
use lib.Pow.{pow_pos}
use mathlib.Core.List.{List}
use Rattle.std.specs.Prelude.{ℕ, Option, Some, None}
use Rattle.std.specs.Option.{unwrap_or}
use Rattle.few_keys.specs.Find.{Answers}
use Rattle.few_keys.proofs.Bracket.{answers-all, answers-none}
use Rattle.set.specs.Found.{index_of, place_in}
use Rattle.set.proofs.Among.{answers-lookup}
use Rattle.set.proofs.Part.{part-bracket, part-answers}
use Rattle.rules_laws.proofs.Kmer.{canonical-lt}
use Rattle.set.proofs.Table.{shift-lt, prefix-bracket, prefix-in-range}
use Rattle.set.proofs.look_up.Goals.{After-canonical-key, After-span_of}
use Rattle.set.proofs.look_up.Goals as goal

module _ (c : After-canonical-key) where
  abbrev bytes : List ℕ
  bytes = c.args.set.now

  key-is : c.canonical-key.result ≡ canonical (header_k bytes) c.args.kmer.code
  key-is = c.canonical-key.ensures _ (record { small = c.requires.1.small; turned = c.requires.1.turned; unknown_lt = pow_pos _ })

  key-lt : c.canonical-key.result < 4 ^ header_k bytes
  key-lt = omega (arith, key-is, canonical-lt (header_k bytes) c.args.kmer.code c.requires.1.small)

  -- What is answered about the key among all is what the lookup answers.
  lookup-is : (r : Option ℕ) → Answers 0 bytes c.canonical-key.result 0 (header_n bytes) r
      → place_in c.args.n (index_of r) ≡ place_in c.args.n (lookup (set_of bytes) c.args.kmer.code)
  lookup-is r h = ap (place_in c.args.n) (answers-lookup bytes c.requires.0.opens c.args.kmer.code r (rw (← key-is) h))

pub invariant_of-lookup : goal.invariant_of-lookup
invariant_of-lookup c = record { table = c.requires.0 }

pub range_of-range-requires : goal.range_of-range-requires
range_of-range-requires c = key-lt (goal.at.range_of-range-requires c).After-canonical-key

pub returns-then-range : goal.returns-then-range
returns-then-range c =
    lookup-is (goal.at.returns-then-range c).After-canonical-key None (answers-none (prefix-bracket c.range_of-range.ensures) c.if-range.true)

pub part-requires : goal.part-requires
part-requires c = omega (arith, c.if-range.false, c.range_of-range.ensures.ends.within)

pub in_few-requires : goal.in_few-requires
in_few-requires c =
    omega (arith, c.part.ensures.first_is, c.part.ensures.last_is, c.if-range.false, c.if-range-le4.true)

pub span_of-requires : goal.span_of-requires
span_of-requires c = key-lt (goal.at.span_of-requires c).After-canonical-key

-- The keys of the prefix are among those that may be looked at.
within : (c : After-span_of) → let s = c.span_of.result in
    (s.start ≤ c.range_of-range.result.start) × (c.range_of-range.result.end ≤ s.end)
within c =
    prefix-in-range c.args.shift c.args.finer c.range_of-range.ensures c.span_of.ensures (omega (arith, c.if-range.false))

pub part-part-requires : goal.part-part-requires
part-part-requires c =
    omega (arith, within (goal.at.part-part-requires c).After-span_of, c.if-range.false, c.span_of.ensures.ends.within)

pub find-requires : goal.find-requires
find-requires c =
    let w = within (goal.at.find-requires c).After-span_of in (
      omega (arith, shift-lt c.requires.0),
      part-bracket c.part-part.ensures c.span_of.ensures.ends.within (prefix-bracket c.range_of-range.ensures) w.0 w.1,
      omega (arith, c.if-range.false),
    )

place-is : (n : ℕ) (r : Option ℕ) → unwrap_or r n ≡ place_in n (index_of r)
place-is n (Some i) = refl
place-is n None = refl

pub returns-then-range-le4 : goal.returns-then-range-le4
returns-then-range-le4 c =
    c.unwrap_or.ensures
    ∙ place-is _ c.in_few.result
    ∙ lookup-is (goal.at.returns-then-range-le4 c).After-canonical-key _ (answers-all (prefix-bracket c.range_of-range.ensures) _ (part-answers c.part.ensures _ _ c.in_few.ensures))

pub returns : goal.returns
returns c =
    c.unwrap_or-2.ensures
    ∙ place-is _ c.find.result
    ∙ lookup-is (goal.at.returns c).After-canonical-key _ (answers-all (prefix-bracket c.span_of.ensures) _ (part-answers c.part-part.ensures _ _ c.find.ensures))
