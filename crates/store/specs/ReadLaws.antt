-- The cells of a face depend only on which of the kept flushes are chosen: lemmas.
use Rattle.std.proofs.Common.{◌≡◌, ◌∙◌, ◌∷◌, [], ℕ, Bool, List, map, fold, refl, sym, ap}
use Rattle.std.specs.Prelude.{◌&&◌, if◌then◌else◌}
use Rattle.dns_text.specs.declared.record.Question.{Question}
use Rattle.ranked.specs.Flush.{covers}
use Rattle.change_law.specs.declared.kept.KeptChange.{KeptChange}
use Rattle.change_law.specs.Choice.{Agree, is_done}
use Rattle.shelf.specs.declared.shelf.KeptFlush.{KeptFlush}
use Rattle.shelf.specs.Told.{later_chosen}
use Rattle.table_changes.specs.Part.{part}
use Rattle.table_changes.specs.PartLaws.{part_all}
use Rattle.store.specs.declared.world.SavedFlush.{SavedFlush}
use Rattle.store.specs.declared.store.SavedChange.{SavedChange}
use Rattle.store.specs.declared.store.Store.{Store}
use Rattle.store.specs.Store.{of_cells, store_face, KeepsStore}
use Rattle.store.specs.World.{Shelved, cell_at, face_by, mark, mark_of, KeepsFlushes}
use Rattle.store.specs.WorldLaws.{first_mark, rest}

read_fold : (q : Question) (chosen other : ℕ → Bool) (v : ℕ) (kept : List (KeptChange SavedFlush)) (items : List KeptFlush) → map mark_of kept ≡ map mark items → Agree chosen other kept →
    fold (later_chosen q chosen) v items ≡ fold (later_chosen q other) v items
read_fold q chosen other v [] [] e p = refl
read_fold q chosen other v [] (own ∷ items) e p = absurd cc
read_fold q chosen other v (k ∷ kept) [] e p = absurd cc
read_fold q chosen other v (k ∷ kept) (own ∷ items) e p =
    let here : (k.ticket, is_done k.standing) ≡ (own.number, own.shown) = ap first_mark e in
    let ticket : k.ticket ≡ own.number = ap (λ (m : ℕ × Bool). m.0) here in
    let same : chosen own.number ≡ other own.number = ap chosen (sym ticket) ∙ (p.0 ∙ ap other ticket) in
    read_fold q chosen other (later_chosen q chosen v own) kept items (ap rest e) p.1
    ∙ ap (λ (b : Bool). fold (later_chosen q other) (if b && covers own.flush q then own.number else v) items) same

pub reads_flushes : (shelf : Shelved) (kept : List (KeptChange SavedFlush)) (chosen other : ℕ → Bool) → KeepsFlushes shelf kept → Agree chosen other kept →
    (q : Question) → (face_by shelf kept chosen).cell q ≡ (face_by shelf kept other).cell q
reads_flushes shelf kept chosen other h same q = ap (λ v. cell_at shelf q v) (read_fold q chosen other 0 kept shelf.flushes h.agree same)

pub reads_store : (x : Store) (kept : List (KeptChange SavedChange)) (chosen other : ℕ → Bool) → KeepsStore x kept → Agree chosen other kept →
    (q : Question) → (store_face x kept chosen).cell q ≡ (store_face x kept other).cell q
reads_store x kept chosen other h same q =
    reads_flushes x.cells (part of_cells kept) chosen other h.1
    (part_all of_cells (λ k. chosen k.ticket ≡ other k.ticket) (λ k. chosen k.ticket ≡ other k.ticket) (λ k p e s. s) kept same) q
