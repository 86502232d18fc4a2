-- The scenarios' scores, and which of them are kept.
use Prim.Native.Nat.{ℕ, suc, ◌+◌, ◌-◌, ◌≤◌, ◌<◌}
use native.Mathlib.Omega.{arith}
use native.Mathlib.Numerals.{add-one}
use mathlib.Core.Path.{◌≡◌, refl, sym, ap, ◌∙◌, subst}
use mathlib.Core.Bool.{Bool, true, false}
use mathlib.Core.Option.{Option, none, some}
use mathlib.Core.List.{List, [], ◌∷◌, ◌++◌, map, append_assoc, append-nil}
use lib.Dec.{ltb, eqb}
use lib.ListN.{length, take, drop, get_or, length-map, get_or-map, drop_of_length-le}
use lib.Seq.{drop-cons, length-take-le}
use Rattle.std.proofs.Common.{length-drop}
use borrow.Author.Tests.{lt-ltb, le-ltb, eq-eqb, ne_eqb}
use Rattle.std.specs.Prelude.{Option as Found}
use Rattle.rules.specs.Letters.{Kmer, add_base}
use Rattle.rules.specs.Set.{KmerSet, lookup, solid}
use Rattle.rules.specs.Counted.{Counted, after, refuse, ◌>>=◌}
use Rattle.rules.specs.Scan.{ask}
use Rattle.rules.specs.Exist.{Scenario, Mend, cons, solid_run, score, keep, tried, kept}
use Rattle.rules_laws.proofs.Kmer.{Known, ne-known}
use Rattle.rules_laws.proofs.Scan.{ask-is, ask-one, ask-none}
use Rattle.set.specs.declared.Asked.{Asked}
use Rattle.set.specs.Asked.{AskedIs}
use Rattle.set.specs.Found.{index_of, is_key}
use Rattle.set.proofs.Among.{found-solid}
use Rattle.scenario.specs.Scenario.{trial_of}
use Rattle.scan.proofs.Laws.{refused-bind, given-bind}
use Rattle.scenario.proofs.Trials.{asked_is, solid-one}
use Rattle.trials.specs.Trials.{confirm}

-- Whether a run of solid k-mers went over all of c bases, and its lookups.
pub record Confirmed (m : Counted ℕ) (c : ℕ) (all : Bool) (l : ℕ) : Type 0 where
  pub answer : eqb m.answer c ≡ all
  pub lookups : m.lookups ≡ l

module _ (k : ℕ) (sol : ℕ → Bool) (c : ℕ) (s : List ℕ) (pos : 1 ≤ c) (sc : Scenario) where
  -- ---- before any base is added

  tried-by : tried k sol c s sc ≡ trial_of s sc >>= keep k sol c s sc
  unfolding tried trial_of refuse ◌>>=◌ after
  tried-by = go (ltb (length s) sc.least) refl
    where
      go : (q : Bool) → ltb (length s) sc.least ≡ q → tried k sol c s sc ≡ trial_of s sc >>= keep k sol c s sc
      go true e = rw (e, tried, trial_of) refl
      go false e = rw (e, tried, trial_of) refl

  keep-none : {n : ℕ} (t : Kmer) → score k sol c s sc.o t ≡ record { answer = 0; lookups = n } → keep k sol c s sc t ≡ record { answer = none; lookups = n }
  unfolding keep
  keep-none t e = rw (e, keep, ne_eqb 0 c (λ z. omega arith))

  module _ {l : ℕ} where
    pub eligible-none : trial_of s sc ≡ record { answer = none; lookups = l } → tried k sol c s sc ≡ record { answer = none; lookups = l }
    eligible-none e = tried-by ∙ refused-bind (keep k sol c s sc) e

    -- the tried k-mer t asked
    module _ {t : Kmer} {a : Bool} {n : ℕ} (e : trial_of s sc ≡ record { answer = some t; lookups = l }) (asked : ask sol t ≡ record { answer = a; lookups = n }) where
      by : {b : Bool} → a ≡ b → (ask sol t).answer ≡ b
      by f = ap (λ (r : Counted Bool). r.answer) asked ∙ f

      asks : (ask sol t).lookups ≡ n
      asks = ap (λ (r : Counted Bool). r.lookups) asked

      pub eligible-weak : a ≡ false → tried k sol c s sc ≡ record { answer = none; lookups = l + n }
      unfolding score after
      eligible-weak f = tried-by ∙ given-bind (keep k sol c s sc) e ∙ rw (keep-none {n = n} t (rw (by f, score, asks)))

      pub eligible-short : a ≡ true → length s < sc.o + c → tried k sol c s sc ≡ record { answer = none; lookups = l + n }
      unfolding score after
      eligible-short f h =
          tried-by
          ∙ given-bind (keep k sol c s sc) e
          ∙ rw (keep-none {n = n} t (rw (by f, score, lt-ltb (length s) (sc.o + c) h, asks)))

      pub eligible-on : a ≡ true → sc.o + c ≤ length s → tried k sol c s sc ≡ after (l + n) (confirm k sol c s sc t)
      unfolding score after confirm keep
      eligible-on f h =
          tried-by
          ∙ given-bind (keep k sol c s sc) e
          ∙ rw (by f, keep, score, le-ltb (length s) (sc.o + c) h, asks)
          (let m = (solid_run k sol t (take c (drop sc.o s))).lookups in
          let z : l + (n + m) ≡ l + n + m = omega arith in
          λ i. record { answer = (confirm k sol c s sc t).answer; lookups = z i })

    -- a tried k-mer that holds an unknown letter
    pub eligible-unknown : {t : Kmer} → trial_of s sc ≡ record { answer = some t; lookups = l } → (t.unknown ≡ 0 → ⊥) → tried k sol c s sc ≡ record { answer = none; lookups = l }
    eligible-unknown {t} e f =
        let z : l + 0 ≡ l = omega arith in
        eligible-weak e (ask-none sol t (ne-known t f)) refl ∙ (λ i. record { answer = none; lookups = z i })

-- a k-mer without unknown letters looked up, and answered by r
pub looked-up : (set : KmerSet) (y : Kmer) → Known y → (r : Found ℕ) → index_of r ≡ lookup set y.code
    → ask (solid set) y ≡ record { answer = is_key r; lookups = 1 }
looked-up set y known r found =
    let a = ask-is (solid set) y known ∙ sym (found-solid r set y.code found) in
    let p = ask-one (solid set) y known in
    λ i. record { answer = a i; lookups = p i }

-- ---- the bases added

-- t, and z after j of the bases, all solid between
module _ (k : ℕ) (sol : ℕ → Bool) (bases : List ℕ) (t : Kmer) where
  abbrev from : ℕ → Kmer → Counted ℕ
  from j z = solid_run k sol z (drop j bases)

  abbrev whole : Counted ℕ
  whole = solid_run k sol t bases

  pub record Run (j : ℕ) (z : Kmer) : Type 0 where
    pub answer : whole.answer ≡ j + (from j z).answer
    pub lookups : whole.lookups ≡ j + (from j z).lookups

  -- base j added gives z', which is asked and answered by p
  module _ {j : ℕ} {z z' : Kmer} {p : Asked} (r : Run j z) (h : j < length bases) (z-is : z' ≡ add_base k z (get_or bases j 0)) (asked : AskedIs (ask sol z') p) where
    abbrev after-base : Kmer
    after-base = add_base k z (get_or bases j 0)

    here : AskedIs (ask sol after-base) p
    here = subst (λ (w : Kmer). AskedIs (ask sol w) p) z-is asked

    pub run-on : p.solid ≡ true → Run (j + 1) z'
    unfolding solid_run
    run-on f =
        let one : (ask sol after-base).lookups ≡ 1 = sym here.lookups ∙ solid-one sol after-base here f in
        let n : from j z ≡ record { answer = suc (from (j + 1) z').answer; lookups = 1 + (from (j + 1) z').lookups } =
        rw (drop-cons bases j 0 h, solid_run, asked_is sol after-base here f, one, z-is, add-one) in
        record {
          answer = omega (arith, r.answer, ap (λ (m : Counted ℕ). m.answer) n);
          lookups = omega (arith, r.lookups, ap (λ (m : Counted ℕ). m.lookups) n);
        }

    pub run-bad : p.solid ≡ false → Confirmed whole (length bases) false (j + p.lookups)
    unfolding solid_run
    run-bad f =
        let n : from j z ≡ record { answer = 0; lookups = p.lookups } = rw (drop-cons bases j 0 h, solid_run, asked_is sol after-base here f, here.lookups) in
        record {
          answer = ne_eqb whole.answer (length bases) (λ g. omega (arith, r.answer, ap (λ (m : Counted ℕ). m.answer) n));
          lookups = omega (arith, r.lookups, ap (λ (m : Counted ℕ). m.lookups) n);
        }

  pub run-all : {j : ℕ} {z : Kmer} → Run j z → j ≡ length bases → Confirmed whole (length bases) true j
  unfolding solid_run
  run-all {j} {z} r g =
      let n : from j z ≡ record { answer = 0; lookups = 0 } = rw (drop_of_length-le bases {i = j} (omega arith)) in
      record {
        answer = eq-eqb whole.answer (length bases) (omega (arith, r.answer, ap (λ (m : Counted ℕ). m.answer) n));
        lookups = omega (arith, r.lookups, ap (λ (m : Counted ℕ). m.lookups) n);
      }

-- ---- the c bases of a scenario

module _ (c : ℕ) (s : List ℕ) where
  -- the bases from o, as they are lent
  abbrev pub lent : ℕ → List ℕ
  lent o = take (o + c - o) (drop o s)

  pub lent-length : (sc : Scenario) (o : ℕ) → o ≡ sc.o → sc.o + c ≤ length s → length (lent o) ≡ c
  lent-length sc o e long = length-take-le (o + c - o) (drop o s) (omega (arith, length-drop o s)) ∙ omega arith

module _ (k : ℕ) (sol : ℕ → Bool) (c : ℕ) (s : List ℕ) (sc : Scenario) (t : Kmer) where
  confirmed-at : (o : ℕ) → o ≡ sc.o → sc.o + c ≤ length s → {all : Bool} {n : ℕ} → Confirmed (solid_run k sol t (lent c s o)) (length (lent c s o)) all n
      → Confirmed (solid_run k sol t (take c (drop sc.o s))) c all n
  confirmed-at o e long {all} {n} q =
      let m : o + c - o ≡ c = omega arith in
      let l : length (take c (drop sc.o s)) ≡ c = length-take-le c (drop sc.o s) (omega (arith, length-drop sc.o s)) in
      subst (λ (m : ℕ). Confirmed (solid_run k sol t (take c (drop sc.o s))) m all n) l (rw (m, e) at q)

  -- after l lookups they were left to confirm
  module _ (o : ℕ) (o-is : o ≡ sc.o) (long : sc.o + c ≤ length s) (l : ℕ) {n : ℕ} (left : tried k sol c s sc ≡ after l (confirm k sol c s sc t)) where
    pub tried-bad : Confirmed (solid_run k sol t (lent c s o)) (length (lent c s o)) false n → tried k sol c s sc ≡ record { answer = none; lookups = l + n }
    unfolding confirm after
    tried-bad q = let p = confirmed-at o o-is long q in left ∙ rw (p.answer, confirm, p.lookups)

    pub tried-all : Confirmed (solid_run k sol t (lent c s o)) (length (lent c s o)) true n
        → tried k sol c s sc ≡ record { answer = some (record { letters = sc.letters t; resume = sc.r; on = t ∷ [] }); lookups = l + n }
    unfolding confirm after
    tried-all q = let p = confirmed-at o o-is long q in left ∙ rw (p.answer, confirm, p.lookups)

-- ---- the scenarios in their order

-- what stands for a is the next one
pub next-is : {A B : Type 0} (f : A → B) (all : List A) {scs : List B} → map f all ≡ scs → (i : ℕ) (a : A) → a ≡ get_or all i a → i < length all
    → drop i scs ≡ f a ∷ drop (i + 1) scs
next-is f all e i a is h =
    let q : get_or (map f all) i (f a) ≡ f a = get_or-map f all i a ∙ ap f (sym is) in
    rw (← e) (drop-cons (map f all) i (f a) (omega (arith, length-map all f)) ∙ rw (q, add-one))

module _ (k : ℕ) (sol : ℕ → Bool) (c : ℕ) (s : List ℕ) (scs : List Scenario) where
  abbrev of : List Scenario → Counted (List Mend)
  of = kept k sol c s

  -- ms are kept of the first i, after l lookups
  pub record Done (i : ℕ) (ms : List Mend) (l : ℕ) : Type 0 where
    pub answer : (of scs).answer ≡ ms ++ (of (drop i scs)).answer
    pub lookups : (of scs).lookups ≡ l + (of (drop i scs)).lookups

  pub done-paid : {i l l' : ℕ} {ms : List Mend} → Done i ms l → l' ≡ l → Done i ms l'
  done-paid {i} {ms = ms} d e = subst (λ (n : ℕ). Done i ms n) (sym e) d

  module _ {i l : ℕ} {ms : List Mend} {sc : Scenario} (d : Done i ms l) (here : drop i scs ≡ sc ∷ drop (i + 1) scs) where
    abbrev rest : Counted (List Mend)
    rest = of (drop (i + 1) scs)

    module _ {n : ℕ} {o : Option Mend} (e : tried k sol c s sc ≡ record { answer = o; lookups = n }) where
      next : of (drop i scs) ≡ record { answer = cons o rest.answer; lookups = n + rest.lookups }
      unfolding kept
      next = rw (here, kept, e)

      answered : (of scs).answer ≡ ms ++ cons o rest.answer
      answered = d.answer ∙ ap (λ (t : Counted (List Mend)). ms ++ t.answer) next

      paid : (of scs).lookups ≡ l + n + rest.lookups
      paid = omega (arith, d.lookups, ap (λ (t : Counted (List Mend)). t.lookups) next)

    pub done-refused : {n : ℕ} → tried k sol c s sc ≡ record { answer = none; lookups = n } → Done (i + 1) ms (l + n)
    unfolding cons
    done-refused e = record { answer = answered e; lookups = paid e }

    pub done-kept : {n : ℕ} {m : Mend} → tried k sol c s sc ≡ record { answer = some m; lookups = n } → Done (i + 1) (ms ++ (m ∷ [])) (l + n)
    unfolding cons
    done-kept {m = m} e = record { answer = answered e ∙ sym (append_assoc ms (m ∷ []) rest.answer); lookups = paid e }

  module _ {i l : ℕ} {ms : List Mend} (d : Done i ms l) (h : length scs ≤ i) where
    ended : of (drop i scs) ≡ record { answer = []; lookups = 0 }
    unfolding kept
    ended = rw (drop_of_length-le scs h)

    pub done-answer : (of scs).answer ≡ ms
    done-answer = d.answer ∙ ap (λ (t : Counted (List Mend)). ms ++ t.answer) ended ∙ append-nil ms

    pub done-lookups : (of scs).lookups ≡ l
    done-lookups = omega (arith, d.lookups, ap (λ (t : Counted (List Mend)). t.lookups) ended)
