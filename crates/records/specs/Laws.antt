-- What proofs elsewhere cite: a record is read back from its block, and a block is the form of what
-- is read from it.
use Rattle.std.proofs.Common.{◌≡◌, ℕ, List, Some, None, Option, MatchOption, sym, refl, ap, ◌∙◌, arith}
use Rattle.std.specs.Bool.{if◌then◌else◌}
use Rattle.std.specs.Option.{option_and_then}
use Rattle.std.specs.Int.{w64}
use Rattle.std.specs.Str.{bytes_eq}
use Rattle.std.proofs.lemmas.Slice.Eq.{bytes_eq-Decides}
use Rattle.std.proofs.lemmas.Option.{none-some, cond_some}
use Rattle.encoding.specs.Numbers.{number_at}
use Rattle.encoding.specs.Laws.{eight_read}
use Rattle.records.specs.Form.{encoded, FitsRecord, parsed, Exact, IsNoForm, if_form, decoded, OneForm}
use Rattle.records.specs.declared.record.Record.{Record}
use Rattle.records.specs.declared.record.Record.TheVariants.{Posting, Certification, Strike}

-- a record's fields are read back
pub parsed_back : (k : ℕ) (x : Record) → FitsRecord x → parsed (encoded k x) ≡ Some x
parsed_back k (Posting p) h = ap (λ z. Some (Posting (record { enterer = p.enterer; countersigner = p.countersigner; procedure = p.procedure; a = p.a; b = p.b; amount = z }))) (eight_read p.amount h)
parsed_back k (Certification c) h = ap (λ z. Some (Certification (record { user = c.user; procedure = c.procedure; role = c.role; row = c.row; mask = z }))) (eight_read c.mask h)
parsed_back k (Strike w) h = refl

-- the record is read back
pub read_back : (k : ℕ) (x : Record) → FitsRecord x → decoded k (encoded k x) ≡ Some x
read_back k x h =
    ap (option_and_then (if_form k (encoded k x))) (parsed_back k x h)
    ∙ ap (λ z. if z then Some x else None) ((bytes_eq-Decides (encoded k x) (encoded k x)).1 refl)

-- what is read is what the block's fields give, and the block is its form
form_of : (k : ℕ) (c : List ℕ) (x : Record) (o : Option Record) → option_and_then (if_form k c) o ≡ Some x → (o ≡ Some x) × (encoded k x ≡ c)
form_of k c x None e = absurd (none-some x e)
form_of k c x (Some y) e =
    let t = cond_some (bytes_eq (encoded k y) c) y x e in
    (ap Some t.1, sym (ap (encoded k) t.1) ∙ (bytes_eq-Decides (encoded k y) c).0 t.0)

-- what is read back from its own form fits
fits_back : (k : ℕ) (x : Record) → parsed (encoded k x) ≡ Some x → FitsRecord x
fits_back k (Posting p) h =
    let same : number_at w64 (encoded k (Posting p)) 8 ≡ p.amount = cc in
    omega arith
fits_back k (Certification c) h =
    let same : number_at w64 (encoded k (Certification c)) 16 ≡ c.mask = cc in
    omega arith
fits_back k (Strike w) h = tt

pub exact : (k : ℕ) (x : Record) (c : List ℕ) → decoded k c ≡ Some x → Exact k x c
exact k x c e =
    let f = form_of k c x (parsed c) e in
    record { fits = fits_back k x (ap parsed f.1 ∙ f.0); form = f.1 }

-- a block that is a form is read
pub no_other : (k : ℕ) (x : Record) (c : List ℕ) → decoded k c ≡ None → Exact k x c → ⊥
no_other k x c e f = none-some x (sym e ∙ ap (decoded k) (sym f.form) ∙ read_back k x f.fits)

-- what was decoded is the record whose form the block is, and there is none where nothing was
pub decodes : (k : ℕ) (c : List ℕ) (r : Option Record) → r ≡ decoded k c → MatchOption r (IsNoForm k c) (λ x. encoded k x ≡ c)
decodes k c None e = λ x h f. no_other k x c (sym e) (record { fits = h; form = f })
decodes k c (Some x) e = (exact k x c (sym e)).form

pub one_form : OneForm
one_form = record { read_back = read_back; exact = exact; no_other = no_other }
