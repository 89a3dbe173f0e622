use Rattle.std.proofs.Common.{◌≡◌, ℕ, ◌+◌, ◌<◌, ◌≤◌, ◌⊎◌, List, get_or, drop, Decides, sym, ap, ◌∙◌, subst, inl, inr, arith}
use Rattle.std.proofs.lemmas.List.{drop_all}
use Rattle.changes.specs.CommitBlock.{count_of, number_of, named_in, rising, Rises}
use Rattle.changes.specs.Laws.Encoding.{named_at, length-named}
use Rattle.changes.specs.Laws.Testing.{rising_decides, rising_on, rising_ends}
use Rattle.changes.proofs.commit_block.is_rising.Goals as goal

-- the number that the code reads is the list's
read : (c : List ℕ) (i x n : ℕ) → i < count_of c → count_of c ≤ 6 → (i < 6 → n ≡ number_of c i) → x ≡ n → x ≡ get_or (named_in c) i 0
read c i x n h few named e = e ∙ named (omega arith) ∙ sym (named_at c i h)

pub loop-place-preserved : goal.loop-place-preserved
loop-place-preserved c =
    let ns = named_in c.args.commit.now in
    let i = c.loop-place.place in
    let here : i < count_of c.args.commit.now = omega arith in
    let x = read c.args.commit.now i _ _ here c.requires.few c.named_block.ensures.value c.from-number.ensures in
    let step = rising_on c.args.size c.loop-place.last i ns (omega (arith, length-named c.args.commit.now)) (omega arith) (omega arith) in
    c.loop-place.invariant ∙ step ∙ ap (λ m. rising c.args.size m (drop (i + 1) ns)) (sym x)

pub returns-then-number-last : goal.returns-then-number-last
returns-then-number-last c =
    let ns = named_in c.args.commit.now in
    let i = c.loop-place.place in
    let here : i < count_of c.args.commit.now = omega arith in
    let x = read c.args.commit.now i _ _ here c.requires.few c.named_block.ensures.value c.from-number.ensures in
    let fails : (get_or ns i 0 ≤ c.loop-place.last) ⊎ (c.args.size ≤ get_or ns i 0) = elim c.then-number-last.either [ inl a ↦ inl (omega arith) | inr b ↦ inr (omega arith) ] in
    let no = c.loop-place.invariant ∙ rising_ends c.args.size c.loop-place.last i ns (omega (arith, length-named c.args.commit.now)) fails in
    record { decides = subst (λ b. Decides b (Rises c.args.size ns)) no (rising_decides c.args.size ns) }

pub returns : goal.returns
returns c =
    let ns = named_in c.args.commit.now in
    let yes = c.loop-place.invariant ∙ ap (rising c.args.size c.loop-place.last) (drop_all c.loop-place.place ns (omega (arith, length-named c.args.commit.now))) in
    record { decides = subst (λ b. Decides b (Rises c.args.size ns)) yes (rising_decides c.args.size ns) }
