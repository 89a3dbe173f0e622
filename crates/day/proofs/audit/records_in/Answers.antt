use Rattle.std.proofs.Common.{◌≡◌, ℕ, ◌+◌, ◌<◌, List, [], ◌∷◌, ◌++◌, length, take, get_or, Some, None, Ok, refl, sym, ◌∙◌, ap}
use Rattle.std.proofs.lemmas.List.{take_more, append-nil}
use Rattle.std.proofs.lemmas.List.Elements.{filter_map-append}
use Rattle.std.specs.Vec.{vec_items}
use Rattle.records.specs.declared.record.Record.{Record}
use Rattle.desk.specs.declared.told.Told.{Told}
use Rattle.desk.specs.declared.told.Told.TheVariants.{Count}
use Rattle.day.specs.Outcome.{record_seen, records_seen}
use Rattle.day.proofs.audit.records_in.Goals as goal
use Rattle.day.proofs.audit.records_in.Goals.{in-Some+in_ok-push, in_default}

-- one answer more is looked at
seen_more :
    (xs : List Told) (i : ℕ) (d : Told) → i < length xs
    → records_seen (take (i + 1) xs) ≡ records_seen (take i xs) ++ records_seen (get_or xs i d ∷ [])
seen_more xs i d h = rw (take_more xs i d h) (filter_map-append record_seen (take i xs) (get_or xs i d ∷ []))

seen_some : (a : Told) (x : Record) → record_seen a ≡ Some x → records_seen (a ∷ []) ≡ x ∷ []
seen_some a x e = rw e refl

seen_none : (a : Told) (xs : List Record) → record_seen a ≡ None → xs ++ records_seen (a ∷ []) ≡ xs
seen_none a xs e = rw e (append-nil xs)

pub loop-look-preserved : goal.loop-look-preserved
loop-look-preserved c =
    let d : Told = Count (Ok 0) in
    let a : Told = get_or c.args.looks.now c.loop-look.look-index d in
    let so_far : vec_items c.loop-look.records ≡ records_seen (take c.loop-look.look-index c.args.looks.now) = c.loop-look.invariant in
    let more = seen_more c.args.looks.now c.loop-look.look-index d c.loop-look-test.true in
    let seen : c.record_in.result ≡ record_seen a = c.record_in.ensures.value in
    elim c.match-record_in.branch [
      | in-Some+in_ok-push w ↦
          ap vec_items w.records-is ∙ w.in_ok-push.ensures.items
          ∙ ap (λ z. z ++ (w.in-Some.entry ∷ [])) so_far
          ∙ ap (λ z. records_seen (take c.loop-look.look-index c.args.looks.now) ++ z) (sym (seen_some a w.in-Some.entry (sym seen ∙ w.in-Some.is)))
          ∙ sym more
      | in_default w ↦
          ap vec_items w.records-is ∙ so_far ∙ sym (seen_none a _ (sym seen ∙ w.in_default.is)) ∙ sym more
    ]
