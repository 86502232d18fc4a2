-- Document 02, W14, for lists of lines in general: the output and the passes are the lines', one behind the other, and a line's bytes, passes and share
-- are its own.
use Prim.Native.Nat.{ℕ, zero, suc, ◌+◌, ◌*◌, ◌<◌}
use native.Mathlib.Omega.{arith}
use native.Mathlib.Nat.{zero-mul, suc-mul}
use mathlib.Core.Path.{◌≡◌, refl, sym, ap, ◌∙◌}
use mathlib.Core.Option.{none}
use mathlib.Core.List.{List, [], ◌∷◌, ◌++◌, flat_map, append-nil, append_assoc}
use lib.ListN.{length, get_or, take, drop, length-append}
use lib.Seq.{split_at, drop-append-add, drop-append_seam, take_at}
use Rattle.rules.specs.Set.{KmerSet}
use Rattle.rules.specs.Job.{Entry, pass, result}
use Rattle.rules.specs.Counts.{Fed, sum, passes_of, all_passes, turns, lookups, attempts, corrections, support_over, w_of}
use Rattle.rules.specs.Calls.{results, report}
use Rattle.rules_fasta.specs.Shares.{share}
use Rattle.rules_batches.specs.Batches.{Share, place_in, bytes_in, passes_in, share_of, Tells, OwnLine}

module _ (set : KmerSet) (es : List Entry) where
  -- The output is the lines' results, each with its ending, in order.
  pub results-laid : (ending : List ℕ) (ls : List (List ℕ)) → results set es ending ls ≡ flat_map (λ l. result set es l ++ ending) ls
  unfolding results flat_map
  results-laid ending [] = refl
  results-laid ending (l ∷ ls) =
      sym (append_assoc (result set es l) ending (results set es ending ls)) ∙ ap (λ (t : List ℕ). (result set es l ++ ending) ++ t) (results-laid ending ls)

  -- The passes are the lines', in order.
  pub passes-laid : (ls : List (List ℕ)) → all_passes set es ls ≡ flat_map (passes_of set es) ls
  unfolding all_passes flat_map
  passes-laid [] = refl
  passes-laid (l ∷ ls) = ap (λ (t : List Fed). passes_of set es l ++ t) (passes-laid ls)

  pub results-append : (ending : List ℕ) (ls ms : List (List ℕ)) → results set es ending (ls ++ ms) ≡ results set es ending ls ++ results set es ending ms
  unfolding results
  results-append ending [] ms = refl
  results-append ending (l ∷ ls) ms =
      ap (λ (t : List ℕ). result set es l ++ (ending ++ t)) (results-append ending ls ms)
      ∙ sym (append_assoc (result set es l) (ending ++ results set es ending ls) (results set es ending ms)
      ∙ ap (λ (t : List ℕ). result set es l ++ t) (append_assoc ending (results set es ending ls) (results set es ending ms)))

  -- Line i's result and its ending stand behind those of the lines before it.
  pub results_at : (ending : List ℕ) (ls : List (List ℕ)) (i : ℕ) → i < length ls
      → results set es ending ls
      ≡ results set es ending (take i ls) ++ ((result set es (get_or ls i []) ++ ending) ++ results set es ending (drop (suc i) ls))
  unfolding results
  results_at ending ls i h =
      ap (results set es ending) (split_at ls i [] h)
      ∙ results-append ending (take i ls) (get_or ls i [] ∷ drop (suc i) ls)
      ∙ ap (λ (t : List ℕ). results set es ending (take i ls) ++ t)
      (sym (append_assoc (result set es (get_or ls i [])) ending (results set es ending (drop (suc i) ls))))

  pub bytes-in : (ending : List ℕ) (ls : List (List ℕ)) (i : ℕ) → i < length ls → bytes_in set es ending ls i ≡ result set es (get_or ls i []) ++ ending
  unfolding bytes_in place_in
  bytes-in ending ls i h =
      let front : List ℕ = results set es ending (take i ls) in
      let own : List ℕ = result set es (get_or ls i []) in
      let behind : List ℕ = results set es ending (drop (suc i) ls) in
      ap (λ (l : List ℕ). take (length own + length ending) (drop (length front) l)) (results_at ending ls i h)
      ∙ ap (take (length own + length ending)) (drop-append_seam front ((own ++ ending) ++ behind))
      ∙ take_at (own ++ ending) behind (length own + length ending) (length-append own ending)

  -- Each line has one pass for each entry.
  passes-length : (fs : List Entry) (l : List ℕ) → length (passes_of set fs l) ≡ length fs
  unfolding passes_of
  passes-length [] l = refl
  passes-length (e ∷ fs) l = ap suc (passes-length fs (pass set e l).bytes)

  pub passes-in : (ls : List (List ℕ)) (i : ℕ) → i < length ls → passes_in set es ls i ≡ passes_of set es (get_or ls i [])
  unfolding passes_in all_passes
  passes-in [] i h = absurd (omega arith)
  passes-in (l ∷ ls) zero h =
      rw (zero-mul (length es)) (take_at (passes_of set es l) (all_passes set es ls) (length es) (passes-length es l))
  passes-in (l ∷ ls) (suc i) h =
      let e : suc i * length es ≡ length (passes_of set es l) + i * length es = omega (arith, suc-mul i (length es), passes-length es l) in
      ap (λ (n : ℕ). take (length es) (drop n (passes_of set es l ++ all_passes set es ls))) e
      ∙ ap (take (length es)) (drop-append-add (passes_of set es l) (all_passes set es ls) (i * length es))
      ∙ passes-in ls i (omega arith)

  -- The share is what a batch of its own reports.
  pub own_share : (ls : List (List ℕ)) (i : ℕ) → i < length ls → Tells (share set es (get_or ls i [])) (share_of set es ls i)
  unfolding share_of share report all_passes
  own_share ls i h =
      let p : passes_in set es ls i ≡ passes_of set es (get_or ls i []) ++ [] = passes-in ls i h ∙ sym (append-nil (passes_of set es (get_or ls i []))) in
      record {
        turns = ap (sum (turns set)) p;
        lookups = ap (sum (lookups set)) p;
        attempts = ap (sum (attempts set)) p;
        accepted = ap (sum (corrections set)) p;
        bases = ap (sum (w_of set)) p;
        support = ap (λ (ps : List Fed). elim set.counts [ [] ↦ none | c ∷ cs ↦ support_over set ps ]) p;
      }

-- W14 for any two lists of lines, whatever the other lines hold and wherever the line stands.
pub own_line : (set : KmerSet) (es : List Entry) (ending : List ℕ) (ls ms : List (List ℕ)) (i j : ℕ) → i < length ls → j < length ms
    → get_or ls i [] ≡ get_or ms j [] → OwnLine set es ending ls ms i j
unfolding share_of
own_line set es ending ls ms i j li lj e =
    let p : passes_in set es ls i ≡ passes_in set es ms j = passes-in set es ls i li ∙ ap (passes_of set es) e ∙ sym (passes-in set es ms j lj) in
    let of : List Fed → Share = λ ps. record {
      turns = sum (turns set) ps;
      lookups = sum (lookups set) ps;
      attempts = sum (attempts set) ps;
      accepted = sum (corrections set) ps;
      bases = sum (w_of set) ps;
      support = elim set.counts [ [] ↦ none | c ∷ cs ↦ support_over set ps ];
    } in
    record {
      bytes = bytes-in set es ending ls i li ∙ ap (λ (l : List ℕ). result set es l ++ ending) e ∙ sym (bytes-in set es ending ms j lj);
      own_bytes = bytes-in set es ending ls i li;
      passes = p;
      own_passes = passes-in set es ls i li;
      shares = ap of p;
      own_share = own_share set es ls i li;
    }
