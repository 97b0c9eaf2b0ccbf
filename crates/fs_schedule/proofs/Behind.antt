-- Laws of words that are not what an operation is asked of, or a field is of.
use Rattle.std.proofs.Common.{◌≡◌, ℕ, List, ◌∷◌, refl}
use Rattle.std.specs.Prelude.{codes}
use Rattle.fs_ident.specs.declared.kind.Kind.{Kind}
use Rattle.fs_field.specs.declared.field.Field.{Field}
use Rattle.fs_field.specs.declared.field.Field.TheVariants as field
use Rattle.fs_modes.specs.declared.modes.Mode.{Mode}
use Rattle.fs_modes.specs.declared.modes.Modes.{Modes}
use Rattle.fs_model.specs.declared.op.Op.{Op}
use Rattle.fs_model.specs.declared.op.Op.TheVariants as op
use Rattle.fs_schedule.specs.Words.{Word, Bare}
use Rattle.fs_schedule.specs.Spelling.{op_words, FitsOp, field_words, FitsField}
use Rattle.fs_schedule.specs.Operands.{file_mode_words, IsFileMode, place_words, IsPlace, entry_words, IsEntry, places_words, ArePlaces, handle_words, IsHandle, opening_words, IsOpening, setting_words, IsSetting}
use Rattle.fs_schedule.proofs.Operations.{distinct, no_reap}
use Rattle.fs_schedule.proofs.Single.{behind}

pub no_lookup : (ws : List Word) → ((p : List ℕ × List ℕ) → IsPlace p → ws ≡ place_words p → ⊥) → (o : Op) → FitsOp o → Bare (codes "lookup") ∷ ws ≡ op_words o → ⊥
no_lookup ws none (op.Lookup dir name) h e = none (dir, name) h.1 (behind _ _ _ _ e)
no_lookup ws none (op.Reap file session) h e = no_reap h.0
no_lookup ws none o h e = distinct (codes "lookup") _ _ _ e refl

pub no_create : (ws : List Word) → ((p : List ℕ × List ℕ × Kind) → IsEntry p → ws ≡ entry_words p → ⊥) → (o : Op) → FitsOp o → Bare (codes "create") ∷ ws ≡ op_words o → ⊥
no_create ws none (op.Create dir name kind id) h e = none (dir, name, kind) h.1 (behind _ _ _ _ e)
no_create ws none (op.Reap file session) h e = no_reap h.0
no_create ws none o h e = distinct (codes "create") _ _ _ e refl

pub no_open : (ws : List Word) → ((p : List ℕ × ℕ × Modes) → IsOpening p → ws ≡ opening_words p → ⊥) → (o : Op) → FitsOp o → Bare (codes "open") ∷ ws ≡ op_words o → ⊥
no_open ws none (op.OpenFile file h modes) f e = none (file, h, modes) (f.1.0, f.1.1, f.0) (behind _ _ _ _ e)
no_open ws none (op.Reap file session) f e = no_reap f.0
no_open ws none o f e = distinct (codes "open") _ _ _ e refl

pub no_close : (ws : List Word) → ((p : List ℕ × ℕ) → IsHandle p → ws ≡ handle_words p → ⊥) → (o : Op) → FitsOp o → Bare (codes "close") ∷ ws ≡ op_words o → ⊥
no_close ws none (op.Close file h) f e = none (file, h) f.1 (behind _ _ _ _ e)
no_close ws none (op.Reap file session) f e = no_reap f.0
no_close ws none o f e = distinct (codes "close") _ _ _ e refl

pub no_set : (ws : List Word) → ((p : List ℕ × ℕ × ℕ × ℕ) → IsSetting p → ws ≡ setting_words p → ⊥) → (o : Op) → FitsOp o → Bare (codes "set") ∷ ws ≡ op_words o → ⊥
no_set ws none (op.Set file h size stamp) f e = none (file, h, size, stamp) f.1 (behind _ _ _ _ e)
no_set ws none (op.Reap file session) f e = no_reap f.0
no_set ws none o f e = distinct (codes "set") _ _ _ e refl

pub no_delete : (ws : List Word) → ((p : List ℕ × List ℕ) → IsPlace p → ws ≡ place_words p → ⊥) → (o : Op) → FitsOp o → Bare (codes "delete") ∷ ws ≡ op_words o → ⊥
no_delete ws none (op.Delete dir name) h e = none (dir, name) h.1 (behind _ _ _ _ e)
no_delete ws none (op.Reap file session) h e = no_reap h.0
no_delete ws none o h e = distinct (codes "delete") _ _ _ e refl

pub no_rename : (ws : List Word) → ((p : List ℕ × List ℕ × List ℕ × List ℕ) → ArePlaces p → ws ≡ places_words p → ⊥) → (o : Op) → FitsOp o → Bare (codes "rename") ∷ ws ≡ op_words o → ⊥
no_rename ws none (op.Rename sdir sname ddir dname) h e = none (sdir, sname, ddir, dname) h.1 (behind _ _ _ _ e)
no_rename ws none (op.Reap file session) h e = no_reap h.0
no_rename ws none o h e = distinct (codes "rename") _ _ _ e refl

pub no_child : (ws : List Word) → ((p : List ℕ × List ℕ) → IsPlace p → ws ≡ place_words p → ⊥) → (f : Field) → FitsField f → Bare (codes "child") ∷ ws ≡ field_words f → ⊥
no_child ws none (field.Child dir name) h e = none (dir, name) h (behind _ _ _ _ e)
no_child ws none (field.Own file) h e = h
no_child ws none f h e = distinct (codes "child") _ _ _ e refl

pub no_self : (ws : List Word) → ((p : List ℕ × Mode) → IsFileMode p → ws ≡ file_mode_words p → ⊥) → (f : Field) → FitsField f → Bare (codes "self") ∷ ws ≡ field_words f → ⊥
no_self ws none (field.SelfW file mode) h e = none (file, mode) h (behind _ _ _ _ e)
no_self ws none (field.Own file) h e = h
no_self ws none f h e = distinct (codes "self") _ _ _ e refl

pub no_other : (ws : List Word) → ((p : List ℕ × Mode) → IsFileMode p → ws ≡ file_mode_words p → ⊥) → (f : Field) → FitsField f → Bare (codes "other") ∷ ws ≡ field_words f → ⊥
no_other ws none (field.Other file mode) h e = none (file, mode) h (behind _ _ _ _ e)
no_other ws none (field.Own file) h e = h
no_other ws none f h e = distinct (codes "other") _ _ _ e refl
