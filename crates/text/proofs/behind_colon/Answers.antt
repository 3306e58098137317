-- `text::behind_colon` meets its contract: the last colon before the end is the last one. Assumes nothing.
use Rattle.std.proofs.Common.{rules, arith, refl, sym, ◌∙◌, ◌≡◌, ◌≢◌, ◌≤◌, ℕ, ◌+◌, ◌<◌, length, get_or, take, length-take, length-drop}
use Rattle.std.proofs.lemmas.List.{get_or-take}
use Rattle.text.specs.Text.{Text, colon}
use Rattle.text.proofs.Laws.Table.{part-from}
use Rattle.text.proofs.Laws.Std.{local_name-last, local_name-whole, nowhere}
use Rattle.text.proofs.behind_colon.Goals as goal

-- at no place of a beginning, so at none before its end
before : (name : Text) (end from : ℕ) → end ≤ length name → ((k : ℕ) → from ≤ k → k < length (take end name) → get_or (take end name) k 0 ≢ colon)
    → (k : ℕ) → from ≤ k → k < end → get_or name k 0 ≢ colon
before name end from fits front k low h q = front k low (omega (arith, length-take end name)) (get_or-take end name k 0 h ∙ q)

pub returns-in-Some : goal.returns-in-Some
returns-in-Some c =
    let name = c.args.name.now in
    let end = c.args.end in
    let i = c.in-Some.i in
    let fits : end ≤ length name = c.requires.inside in
    let inside : i < length (take end name) = search rules in
    let here : get_or (take end name) i 0 ≡ colon = search rules in
    let behind : (k : ℕ) → i + 1 ≤ k → k < length (take end name) → get_or (take end name) k 0 ≢ colon = search rules in
    let below : i < end = omega (arith, length-take end name) in
    record {
      bytes = part-from name (i + 1) ∙ sym (local_name-last name i (omega arith) (sym (get_or-take end name i 0 below) ∙ here) (nowhere colon name (i + 1) end (before name end (i + 1) fits behind) c.requires.behind));
      starts = (refl, rw (part-from name (i + 1)) (omega (arith, length-drop (i + 1) name)));
    }

pub returns-in-None : goal.returns-in-None
returns-in-None c =
    let name = c.args.name.now in
    let end = c.args.end in
    let none : (k : ℕ) → 0 ≤ k → k < length (take end name) → get_or (take end name) k 0 ≢ colon = search rules in
    record {
      bytes = sym (local_name-whole name (λ k h. nowhere colon name 0 end (before name end 0 (omega (arith, c.requires.inside)) none) c.requires.behind k (omega arith) h));
      starts = (refl, omega arith);
    }
