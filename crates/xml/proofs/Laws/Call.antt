-- Laws of a document and of the call's answers (specs/Document.antt). Assumes nothing.
use Prim.Native.Nat.{ℕ, ◌≤◌, ◌<◌}
use mathlib.Core.Path.{◌≡◌}
use mathlib.Core.List.{List, []}
use lib.ListN.{length, drop, drop_of_length-le}
use Rattle.sheet.specs.Rows.{filled}
use lib.Seq.{drop-cons}
use Rattle.text.specs.Text.{Text}
use Rattle.xml.specs.Steps.{bad, behind}
use Rattle.xml.specs.Prolog.{misc}
use Rattle.xml.specs.Tape.{TapeEvent}
use Rattle.xml.specs.Root.{unrooted, rooted, root}
use Rattle.xml.specs.Document.{not_well_formed, well_formed, to_end, document_from, Taken, refused}

-- a document by its root and what stands behind it
pub document-bad : (at : ℕ) (s : Text) → root at s ≡ unrooted → document_from at s ≡ not_well_formed
unfolding document_from
document-bad at s e = rw e

pub document-misc : (at : ℕ) (s : Text) (events : List TapeEvent) (a : ℕ) (r : Text) → root at s ≡ rooted events a r → misc a r ≡ bad → document_from at s ≡ not_well_formed
unfolding document_from to_end
document-misc at s events a r e m = rw (e, m)

pub document-more : (text : Text) (at : ℕ) (s : Text) (events : List TapeEvent) (a end : ℕ) → root at s ≡ rooted events a (drop a text) → misc a (drop a text) ≡ behind end (drop end text)
    → end < length text → document_from at s ≡ not_well_formed
unfolding document_from to_end
document-more text at s events a end e m h = rw (e, m, drop-cons text end 0 h)

pub document-whole : (text : Text) (at : ℕ) (s : Text) (events : List TapeEvent) (a end : ℕ) → root at s ≡ rooted events a (drop a text) → misc a (drop a text) ≡ behind end (drop end text)
    → length text ≤ end → document_from at s ≡ well_formed events
unfolding document_from to_end
document-whole text at s events a end e m h = rw (e, m, drop_of_length-le text h)

pub taken_refused : (number place : ℕ) (after : List ℕ) (lent k : ℕ) → number ≡ k → place ≡ 0 → after ≡ filled lent []
    → ◌≡◌ {A = Taken} (record { number = number; place = place; marks = after }) (refused lent k)
unfolding refused
taken_refused number place after lent k e f g = rw (e, f, g)
