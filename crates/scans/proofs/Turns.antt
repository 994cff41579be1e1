-- A turn of each walk, at a record of the run: what is found so far and what the pass over the rest finds make the whole answer.
use Prim.Native.Nat.{ℕ, ◌+◌, ◌≤◌, ◌<◌}
use mathlib.Core.Bool.{Bool, true, false, cond}
use mathlib.Core.Path.{◌≡◌, refl, sym, ap, ◌∙◌}
use mathlib.Core.List.{List, [], ◌∷◌, ◌++◌}
use native.Mathlib.Omega.{arith}
use borrow.Author.Tests.{ne_eqb, leb-true, leb-false}
use lib.Dec.{T, leb}
use lib.ListN.{length, take, set, length-set}
use Rattle.octets.specs.Lists.{any}
use Rattle.address.specs.Address.{number, numbers}
use Rattle.address.specs.Ranges as Ranges
use Rattle.address.specs.Ranges.{well_formed, strictly_inside}
use Rattle.octets.specs.Positions.{number_in}
use Rattle.address.specs.Positions.{range_in}
use Rattle.address.specs.declared.AddressRange.{AddressRange}
use Rattle.image.specs.declared.Run.{Run}
use Rattle.forest.specs.Blocks.{Block}
use Rattle.forest.specs.Defects.{accepted}
use Rattle.forest.specs.Scans.{last_passing, down_pass}
use Rattle.forest.proofs.Laminar.{Laminar}
use Rattle.forest.proofs.Scans.{lookup-scan, up-scan, top-scan}
use Rattle.forest.proofs.Select.{None, first-none, last_none}
use Rattle.scans.specs.Around.{around_in}
use Rattle.scans.specs.declared.Around.{Around}
use Rattle.scans.specs.declared.Around.TheVariants.{Lookup, Up, Top}
use Rattle.scans.specs.Standing.{blocks_in, Searchable}
use Rattle.containment.specs.Tests.{surrounds_by, free_after, keeps_from}
use Rattle.scans.specs.Passing.{strict_by, first_by, passing}
use Rattle.std.specs.Prelude as Prelude
use Rattle.std.specs.Prelude.{Option, Some}
use Rattle.std.specs.Option.{option_to_list}
use Rattle.scans.proofs.Walks.{blocks_left, asked-accepted, asked-proper, Here, next-left, run-laminar}
use Rattle.scans.proofs.Ends.{none-around, none_inside, down-none, any_none}
use Rattle.output.proofs.Emit.{one_more}

-- lookup, up and top by one pass
around-scan : (which : Around) (bs : List Block) → T (accepted bs) → (q : Ranges.Range) → T (well_formed q)
    → passing (first_by which) (λ b. surrounds_by (strict_by which) b.range q) bs [] ≡ around_in which bs q
around-scan Lookup bs t q w = sym (lookup-scan bs t q w)
around-scan Up bs t q w = sym (up-scan bs t q w)
around-scan Top bs t q w = sym (top-scan bs t q w)

-- what the pass over a run finds
abbrev pub passed : Bool → Bool → List ℕ → Run → AddressRange → List ℕ
passed first strict s blocks range = passing first (λ b. surrounds_by strict b.range (numbers range)) (blocks_in s blocks.low) []

pub run-scan : {s starts : List ℕ} {blocks : Run} {range : AddressRange} → Searchable s starts blocks range → (which : Around) {strict first : Bool}
    → strict ≡ strict_by which → first ≡ first_by which → passed first strict s blocks range ≡ around_in which (blocks_in s blocks.low) (numbers range)
run-scan a which e f = rw (e, f) (around-scan which _ (asked-accepted a) _ (asked-proper a))

-- before the blocks bs: what the pass finds from here on is R. Before the first block there is nothing.
pub record Passing (first : Bool) (p : Block → Bool) (bs : List Block) (best : Option ℕ) (R : List ℕ) : Type 0 where
  pub none_yet : first ≡ true → option_to_list best ≡ []
  pub rest : passing first p bs (option_to_list best) ≡ R

pub at_first : (first : Bool) (p : Block → Bool) (bs : List Block) → Passing first p bs Prelude.None (passing first p bs [])
at_first first p bs = record { none_yet = λ f. refl; rest = refl }

-- no block is left that passes
pub none_more : (first : Bool) (p : Block → Bool) (bs : List Block) {best : Option ℕ} {R : List ℕ} → None p bs → Passing first p bs best R → option_to_list best ≡ R
none_more true p bs n r = r.none_yet refl ∙ sym (first-none p bs n) ∙ r.rest
none_more false p bs {best} n r = sym (last_none p bs (option_to_list best) n) ∙ r.rest

-- no block is left
pub at-end : (first : Bool) {p : Block → Bool} {best : Option ℕ} {R : List ℕ} → Passing first p [] best R → option_to_list best ≡ R
at-end true r = r.none_yet refl ∙ r.rest
at-end false r = r.rest

module _ {s starts : List ℕ} {blocks : Run} {range : AddressRange} {i at w : ℕ} (h : Here s starts blocks range i at w) where
  laminar : Laminar (record { number = i; range = range_in s at w } ∷ blocks_left s blocks.low (i + 1))
  laminar = let k = h.high in rw (next-left h) at (run-laminar h.asked h.low (omega arith))

  -- from a block that begins after the range's first on, none is around the range
  module _ {v : Bool} (t : v ≡ leb (number_in s at w) (number range.first)) where
    pub after : v ≡ false → (strict : Bool) → None (λ b. surrounds_by strict b.range (numbers range)) (blocks_left s blocks.low i)
    after f strict = rw (next-left h) (none-around (numbers range) laminar strict (leb-false _ _ (sym t ∙ f)))

    pub not_after : v ≡ true → number_in s at w ≤ number range.first
    not_after f = leb-true _ _ (sym t ∙ f)

  -- from one that begins after its last on, none is inside
  module _ {v : Bool} (t : v ≡ leb (number_in s at w) (number range.last)) (f : v ≡ false) where
    outside : None (λ b. strictly_inside b.range (numbers range)) (blocks_left s blocks.low i)
    outside = rw (next-left h) (none_inside (numbers range) laminar (leb-false _ _ (sym t ∙ f)))

    pub down-stop : (free : ℕ) → down_pass (numbers range) free (blocks_left s blocks.low i) ≡ []
    down-stop free = down-none (numbers range) free (blocks_left s blocks.low i) outside

    pub any-stop : {R : Bool} → any (λ b. strictly_inside b.range (numbers range)) (blocks_left s blocks.low i) ≡ R → false ≡ R
    any-stop inv = sym (any_none (λ b. strictly_inside b.range (numbers range)) (blocks_left s blocks.low i) outside) ∙ inv

  module _ {v : Bool} (t : v ≡ strictly_inside (range_in s at w) (numbers range)) {R : Bool}
      (inv : any (λ b. strictly_inside b.range (numbers range)) (blocks_left s blocks.low i) ≡ R) where
    pub any_found : v ≡ true → true ≡ R
    any_found f = rw (next-left h, sym t ∙ f) at inv

    pub any_missed : v ≡ false → any (λ b. strictly_inside b.range (numbers range)) (blocks_left s blocks.low (i + 1)) ≡ R
    any_missed f = rw (next-left h, sym t ∙ f) at inv

  module _ (strict : Bool) {v : Bool} (t : v ≡ surrounds_by strict (range_in s at w) (numbers range)) where
    abbrev test : Block → Bool
    test b = surrounds_by strict b.range (numbers range)

    last_turn : (best : List ℕ)
        → last_passing test (blocks_left s blocks.low i) best ≡ last_passing test (blocks_left s blocks.low (i + 1)) (cond v (i ∷ []) best)
    last_turn best =
        ap (λ (bs : List Block). last_passing test bs best) (next-left h)
        ∙ ap (λ (u : Bool). last_passing test (blocks_left s blocks.low (i + 1)) (cond u (i ∷ []) best)) (sym t)

    -- at a block that passes: the first, or the best so far
    pub first_found : v ≡ true → {first : Bool} {best : Option ℕ} {R : List ℕ} → first ≡ true → Passing first test (blocks_left s blocks.low i) best R → i ∷ [] ≡ R
    first_found f e r = rw (e, next-left h, sym t ∙ f) at r.rest

    pub last_found : v ≡ true → {first : Bool} (best : Option ℕ) {best' : Option ℕ} {R : List ℕ} → first ≡ false → best' ≡ Some i
        → Passing first test (blocks_left s blocks.low i) best R → Passing first test (blocks_left s blocks.low (i + 1)) best' R
    last_found f best e g r =
        record {
          none_yet = λ k. absurd (let z : ◌≡◌ {A = ℕ} 0 1 = cc in omega arith);
          rest = rw (g, e) (sym (rw f at (last_turn (option_to_list best))) ∙ (rw e at r.rest));
        }

    -- at one that does not
    pub around_missed : v ≡ false → (first : Bool) (best : Option ℕ) {best' : Option ℕ} {R : List ℕ} → best' ≡ best
        → Passing first test (blocks_left s blocks.low i) best R → Passing first test (blocks_left s blocks.low (i + 1)) best' R
    around_missed f true best g r = rw g (record { none_yet = r.none_yet; rest = rw (next-left h, sym t ∙ f) at r.rest })
    around_missed f false best g r = rw g (record { none_yet = r.none_yet; rest = sym (rw f at (last_turn (option_to_list best))) ∙ r.rest })

  module _ (n k : ℕ) {v : Bool} (t : v ≡ keeps_from (free_after n k) (range_in s at w) (numbers range))
      (hits : List ℕ) (z : length hits ≡ 4096) {R : List ℕ}
      (inv : take n hits ++ down_pass (numbers range) (free_after n k) (blocks_left s blocks.low i) ≡ R) where
    pub down-found :
        v ≡ true → n < 4096 → {hits' : List ℕ} {n' k' : ℕ} → hits' ≡ set hits n i → n' ≡ n + 1 → k' ≡ number_in s (at + w) w
        → (length hits' ≡ 4096) × (take n' hits' ++ down_pass (numbers range) (free_after n' k') (blocks_left s blocks.low (i + 1)) ≡ R)
    down-found f b x m g = (
      ap length x ∙ length-set hits n i ∙ z,
      let p : n + 1 ≡ 0 → ⊥ = λ y. omega arith in
          rw (x, m, g, ne_eqb (n + 1) 0 p) (one_more hits n i (rw (next-left h, sym t ∙ f) refl) (omega arith) inv),
    )

    pub down_missed :
        v ≡ false → {hits' : List ℕ} {n' k' : ℕ} → hits' ≡ hits → n' ≡ n → k' ≡ k
        → (length hits' ≡ 4096) × (take n' hits' ++ down_pass (numbers range) (free_after n' k') (blocks_left s blocks.low (i + 1)) ≡ R)
    down_missed f x m g = (ap length x ∙ z, rw (x, m, g) (rw (next-left h, sym t ∙ f) at inv))
