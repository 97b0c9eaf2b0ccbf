-- Words ask for one operation, and name one field, server or packet.
use Rattle.std.proofs.Common.{◌≡◌, ℕ, subst, not, ◌<◌, ◌^◌, ◌==◌, Bool, true, false, List, ◌∷◌, refl, ap, arith, sym, ◌∙◌}
use Rattle.std.specs.Prelude.{Option, Some, None, IfSome, is_some, codes}
use Rattle.std.specs.List.{list_any}
use Rattle.std.specs.Fmt.{decimal}
use Rattle.std.proofs.lemmas.Fmt.{decimal_injective}
use Rattle.std.specs.Str.{bytes_eq}
use Rattle.std.proofs.lemmas.Slice.Eq.{bytes_eq-Decides}
use Rattle.fs_ident.specs.Ident.{IsId}
use Rattle.fs_ident.specs.IdText.{id_text}
use Rattle.fs_ident.specs.declared.kind.Kind.{Kind}
use Rattle.fs_ident.specs.declared.kind.Kind.TheVariants.{File, Dir}
use Rattle.fs_ident.proofs.Readings.{one_id, id_read, whole_read, id_reading}
use Rattle.fs_field.specs.declared.field.Field.{Field}
use Rattle.fs_field.specs.declared.field.Field.TheVariants as field
use Rattle.fs_modes.specs.declared.modes.Modes.{Modes}
use Rattle.fs_modes.specs.declared.modes.Mode.{Mode}
use Rattle.fs_modes.specs.declared.modes.Mode.TheVariants.{AccR, AccW, AccD, DenyR, DenyW, DenyD}
use Rattle.fs_modes.specs.Letters.{letters, dashed, acc_text, deny_text, mode_text}
use Rattle.fs_model.specs.declared.op.Op.{Op}
use Rattle.fs_model.specs.declared.op.Op.TheVariants as op
use Rattle.fs_schedule.specs.Words.{Word, Bare}
use Rattle.fs_schedule.specs.Separated.{Lacks}
use Rattle.fs_schedule.specs.Spelling.{kind_text, op_words, FitsOp, field_words, FitsField, server_word, packet_word}
use Rattle.fs_schedule.proofs.Spelled.{no_letter}

-- ## Operands

pub id_one : (a b : List ℕ) → IsId a → IsId b → id_text a ≡ id_text b → a ≡ b
id_one a b h k e = one_id (id_text a) (id_reading a) a b (id_read a h) (whole_read a) k e

kind_one : (a b : Kind) → kind_text a ≡ kind_text b → a ≡ b
kind_one File File e = refl
kind_one File Dir e = absurd (cc)
kind_one Dir File e = absurd (cc)
kind_one Dir Dir e = refl

texts_differ : (xs ys : List ℕ) → xs ≡ ys → bytes_eq xs ys ≡ false → ⊥
texts_differ xs ys e f = let t : bytes_eq xs ys ≡ true = (bytes_eq-Decides xs ys).1 e in cc

mode_one : (a b : Mode) → mode_text a ≡ mode_text b → a ≡ b
mode_one AccR AccR e = refl
mode_one AccW AccW e = refl
mode_one AccD AccD e = refl
mode_one DenyR DenyR e = refl
mode_one DenyW DenyW e = refl
mode_one DenyD DenyD e = refl
mode_one a b e = absurd (texts_differ (mode_text a) (mode_text b) e refl)

-- the letter is among them
abbrev has_letter : ℕ → List ℕ → Bool
has_letter b xs = list_any (λ x. x == b) xs

tell_letters : (r w d : Bool) → (has_letter 82 (letters r w d) ≡ r) × (has_letter 87 (letters r w d) ≡ w) × (has_letter 68 (letters r w d) ≡ d)
tell_letters true true true = (refl, refl, refl)
tell_letters true true false = (refl, refl, refl)
tell_letters true false true = (refl, refl, refl)
tell_letters true false false = (refl, refl, refl)
tell_letters false true true = (refl, refl, refl)
tell_letters false true false = (refl, refl, refl)
tell_letters false false true = (refl, refl, refl)
tell_letters false false false = (refl, refl, refl)

tell_dashed : (r w d : Bool) → (has_letter 82 (dashed (letters r w d)) ≡ r) × (has_letter 87 (dashed (letters r w d)) ≡ w) × (has_letter 68 (dashed (letters r w d)) ≡ d)
tell_dashed true true true = (refl, refl, refl)
tell_dashed true true false = (refl, refl, refl)
tell_dashed true false true = (refl, refl, refl)
tell_dashed true false false = (refl, refl, refl)
tell_dashed false true true = (refl, refl, refl)
tell_dashed false true false = (refl, refl, refl)
tell_dashed false false true = (refl, refl, refl)
tell_dashed false false false = (refl, refl, refl)

modes_of : (a b c d e f : Bool) → Modes
modes_of a b c d e f = record { acc_r = a; acc_w = b; acc_d = c; deny_r = d; deny_w = e; deny_d = f }

modes_one : (m n : Modes) → acc_text m ≡ acc_text n → deny_text m ≡ deny_text n → m ≡ n
unfolding modes_of
modes_one m n e k =
    let a = tell_letters m.acc_r m.acc_w m.acc_d in
    let b = tell_letters n.acc_r n.acc_w n.acc_d in
    let c = tell_dashed m.deny_r m.deny_w m.deny_d in
    let d = tell_dashed n.deny_r n.deny_w n.deny_d in
    let q1 : m.acc_r ≡ n.acc_r = sym a.0 ∙ ap (has_letter 82) e ∙ b.0 in
    let q2 : m.acc_w ≡ n.acc_w = sym a.1 ∙ ap (has_letter 87) e ∙ b.1 in
    let q3 : m.acc_d ≡ n.acc_d = sym a.2 ∙ ap (has_letter 68) e ∙ b.2 in
    let q4 : m.deny_r ≡ n.deny_r = sym c.0 ∙ ap (has_letter 82) k ∙ d.0 in
    let q5 : m.deny_w ≡ n.deny_w = sym c.1 ∙ ap (has_letter 87) k ∙ d.1 in
    let q6 : m.deny_d ≡ n.deny_d = sym c.2 ∙ ap (has_letter 68) k ∙ d.2 in
    let whole : modes_of m.acc_r m.acc_w m.acc_d m.deny_r m.deny_w m.deny_d ≡ modes_of n.acc_r n.acc_w n.acc_d n.deny_r n.deny_w n.deny_d = cc in
    whole

-- ## Operations

pub distinct : (xs ys : List ℕ) (ws vs : List Word) → Bare xs ∷ ws ≡ Bare ys ∷ vs → bytes_eq xs ys ≡ false → ⊥
distinct xs ys ws vs e f = let same : xs ≡ ys = cc in texts_differ xs ys same f

pub no_reap : false ≡ true → ⊥
no_reap e = cc

no_id : (id : Option (List ℕ)) → not (is_some id) ≡ true → id ≡ None
no_id None e = refl
no_id (Some id) e = absurd (no_reap e)

lookup_one : (dir name : List ℕ) (p : Op) → FitsOp (op.Lookup dir name) → FitsOp p → op_words (op.Lookup dir name) ≡ op_words p → op.Lookup dir name ≡ p
lookup_one dir name (op.Lookup d n) h f e =
    let t1 : id_text dir ≡ id_text d = cc in
    let q1 : dir ≡ d = id_one dir d h.1.0 f.1.0 t1 in
    let q2 : name ≡ n = cc in
    cc
lookup_one dir name (op.Reap fi se) h f e = absurd (no_reap f.0)
lookup_one dir name p h f e = absurd (distinct (codes "lookup") _ _ _ e refl)

delete_one : (dir name : List ℕ) (p : Op) → FitsOp (op.Delete dir name) → FitsOp p → op_words (op.Delete dir name) ≡ op_words p → op.Delete dir name ≡ p
delete_one dir name (op.Delete d n) h f e =
    let t1 : id_text dir ≡ id_text d = cc in
    let q1 : dir ≡ d = id_one dir d h.1.0 f.1.0 t1 in
    let q2 : name ≡ n = cc in
    cc
delete_one dir name (op.Reap fi se) h f e = absurd (no_reap f.0)
delete_one dir name p h f e = absurd (distinct (codes "delete") _ _ _ e refl)

list_one : (dir : List ℕ) (p : Op) → FitsOp (op.List dir) → FitsOp p → op_words (op.List dir) ≡ op_words p → op.List dir ≡ p
list_one dir (op.List d) h f e =
    let t1 : id_text dir ≡ id_text d = cc in
    ap (λ (x : List ℕ). op.List x) (id_one dir d h.1 f.1 t1)
list_one dir (op.Reap fi se) h f e = absurd (no_reap f.0)
list_one dir p h f e = absurd (distinct (codes "list") _ _ _ e refl)

kind_asked_one : (file : List ℕ) (p : Op) → FitsOp (op.Kind file) → FitsOp p → op_words (op.Kind file) ≡ op_words p → op.Kind file ≡ p
kind_asked_one file (op.Kind d) h f e =
    let t1 : id_text file ≡ id_text d = cc in
    ap (λ (x : List ℕ). op.Kind x) (id_one file d h.1 f.1 t1)
kind_asked_one file (op.Reap fi se) h f e = absurd (no_reap f.0)
kind_asked_one file p h f e = absurd (distinct (codes "kind") _ _ _ e refl)

info_one : (file : List ℕ) (p : Op) → FitsOp (op.Info file) → FitsOp p → op_words (op.Info file) ≡ op_words p → op.Info file ≡ p
info_one file (op.Info d) h f e =
    let t1 : id_text file ≡ id_text d = cc in
    ap (λ (x : List ℕ). op.Info x) (id_one file d h.1 f.1 t1)
info_one file (op.Reap fi se) h f e = absurd (no_reap f.0)
info_one file p h f e = absurd (distinct (codes "info") _ _ _ e refl)

create_one : (dir name : List ℕ) (kind : Kind) (id : Option (List ℕ)) (p : Op) → FitsOp (op.Create dir name kind id) → FitsOp p → op_words (op.Create dir name kind id) ≡ op_words p → op.Create dir name kind id ≡ p
create_one dir name kind id (op.Create d n k i) h f e =
    let t1 : id_text dir ≡ id_text d = cc in
    let q1 : dir ≡ d = id_one dir d h.1.0 f.1.0 t1 in
    let q2 : name ≡ n = cc in
    let t3 : kind_text kind ≡ kind_text k = cc in
    let q3 : kind ≡ k = kind_one kind k t3 in
    let q4 : id ≡ i = no_id id h.0 ∙ sym (no_id i f.0) in
    cc
create_one dir name kind id (op.Reap fi se) h f e = absurd (no_reap f.0)
create_one dir name kind id p h f e = absurd (distinct (codes "create") _ _ _ e refl)

open_one : (file : List ℕ) (n : ℕ) (modes : Modes) (p : Op) → FitsOp (op.OpenFile file n modes) → FitsOp p → op_words (op.OpenFile file n modes) ≡ op_words p → op.OpenFile file n modes ≡ p
open_one file n modes (op.OpenFile d k m) h f e =
    let t1 : id_text file ≡ id_text d = cc in
    let q1 : file ≡ d = id_one file d h.1.0 f.1.0 t1 in
    let t2 : decimal n ≡ decimal k = cc in
    let q2 : n ≡ k = decimal_injective n k (omega (arith, h.1.1)) (omega (arith, f.1.1)) t2 in
    let t3 : acc_text modes ≡ acc_text m = cc in
    let t4 : deny_text modes ≡ deny_text m = cc in
    let q3 : modes ≡ m = modes_one modes m t3 t4 in
    cc
open_one file n modes (op.Reap fi se) h f e = absurd (no_reap f.0)
open_one file n modes p h f e = absurd (distinct (codes "open") _ _ _ e refl)

close_one : (file : List ℕ) (n : ℕ) (p : Op) → FitsOp (op.Close file n) → FitsOp p → op_words (op.Close file n) ≡ op_words p → op.Close file n ≡ p
close_one file n (op.Close d k) h f e =
    let t1 : id_text file ≡ id_text d = cc in
    let q1 : file ≡ d = id_one file d h.1.0 f.1.0 t1 in
    let t2 : decimal n ≡ decimal k = cc in
    let q2 : n ≡ k = decimal_injective n k (omega (arith, h.1.1)) (omega (arith, f.1.1)) t2 in
    cc
close_one file n (op.Reap fi se) h f e = absurd (no_reap f.0)
close_one file n p h f e = absurd (distinct (codes "close") _ _ _ e refl)

set_one : (file : List ℕ) (n size stamp : ℕ) (p : Op) → FitsOp (op.Set file n size stamp) → FitsOp p → op_words (op.Set file n size stamp) ≡ op_words p → op.Set file n size stamp ≡ p
set_one file n size stamp (op.Set d k s t) h f e =
    let t1 : id_text file ≡ id_text d = cc in
    let q1 : file ≡ d = id_one file d h.1.0 f.1.0 t1 in
    let t2 : decimal n ≡ decimal k = cc in
    let q2 : n ≡ k = decimal_injective n k (omega (arith, h.1.1)) (omega (arith, f.1.1)) t2 in
    let t3 : decimal size ≡ decimal s = cc in
    let q3 : size ≡ s = decimal_injective size s h.1.2 f.1.2 t3 in
    let t4 : decimal stamp ≡ decimal t = cc in
    let q4 : stamp ≡ t = decimal_injective stamp t h.1.3 f.1.3 t4 in
    cc
set_one file n size stamp (op.Reap fi se) h f e = absurd (no_reap f.0)
set_one file n size stamp p h f e = absurd (distinct (codes "set") _ _ _ e refl)

rename_one : (sdir sname ddir dname : List ℕ) (p : Op) → FitsOp (op.Rename sdir sname ddir dname) → FitsOp p → op_words (op.Rename sdir sname ddir dname) ≡ op_words p → op.Rename sdir sname ddir dname ≡ p
rename_one sdir sname ddir dname (op.Rename a b c d) h f e =
    let t1 : id_text sdir ≡ id_text a = cc in
    let q1 : sdir ≡ a = id_one sdir a h.1.0 f.1.0 t1 in
    let q2 : sname ≡ b = cc in
    let t3 : id_text ddir ≡ id_text c = cc in
    let q3 : ddir ≡ c = id_one ddir c h.1.2 f.1.2 t3 in
    let q4 : dname ≡ d = cc in
    cc
rename_one sdir sname ddir dname (op.Reap fi se) h f e = absurd (no_reap f.0)
rename_one sdir sname ddir dname p h f e = absurd (distinct (codes "rename") _ _ _ e refl)

pub op_one : (o p : Op) → FitsOp o → FitsOp p → op_words o ≡ op_words p → o ≡ p
op_one (op.Lookup dir name) p h f e = lookup_one dir name p h f e
op_one (op.List dir) p h f e = list_one dir p h f e
op_one (op.Kind file) p h f e = kind_asked_one file p h f e
op_one (op.Info file) p h f e = info_one file p h f e
op_one (op.Create dir name kind id) p h f e = create_one dir name kind id p h f e
op_one (op.OpenFile file n modes) p h f e = open_one file n modes p h f e
op_one (op.Close file n) p h f e = close_one file n p h f e
op_one (op.Set file n size stamp) p h f e = set_one file n size stamp p h f e
op_one (op.Delete dir name) p h f e = delete_one dir name p h f e
op_one (op.Rename sdir sname ddir dname) p h f e = rename_one sdir sname ddir dname p h f e
op_one (op.Reap file session) p h f e = absurd (no_reap h.0)

-- ## Fields, servers and packets

pub fields_one : (f g : Field) → FitsField f → FitsField g → field_words f ≡ field_words g → f ≡ g
fields_one (field.Life a) (field.Life b) h k e =
    let t1 : id_text a ≡ id_text b = cc in
    ap (λ (x : List ℕ). field.Life x) (id_one a b h k t1)
fields_one (field.Child a m) (field.Child b n) h k e =
    let t1 : id_text a ≡ id_text b = cc in
    let q1 : a ≡ b = id_one a b h.0 k.0 t1 in
    let q2 : m ≡ n = cc in
    cc
fields_one (field.Names a) (field.Names b) h k e =
    let t1 : id_text a ≡ id_text b = cc in
    ap (λ (x : List ℕ). field.Names x) (id_one a b h k t1)
fields_one (field.Info a) (field.Info b) h k e =
    let t1 : id_text a ≡ id_text b = cc in
    ap (λ (x : List ℕ). field.Info x) (id_one a b h k t1)
fields_one (field.SelfW a m) (field.SelfW b n) h k e =
    let t1 : id_text a ≡ id_text b = cc in
    let q1 : a ≡ b = id_one a b h k t1 in
    let t2 : mode_text m ≡ mode_text n = cc in
    let q2 : m ≡ n = mode_one m n t2 in
    cc
fields_one (field.Other a m) (field.Other b n) h k e =
    let t1 : id_text a ≡ id_text b = cc in
    let q1 : a ≡ b = id_one a b h k t1 in
    let t2 : mode_text m ≡ mode_text n = cc in
    let q2 : m ≡ n = mode_one m n t2 in
    cc
fields_one (field.Own a) g h k e = absurd h
fields_one f (field.Own b) h k e = absurd k
fields_one (field.Life a) g h k e = absurd (distinct (codes "life") _ _ _ e refl)
fields_one (field.Child a m) g h k e = absurd (distinct (codes "child") _ _ _ e refl)
fields_one (field.Names a) g h k e = absurd (distinct (codes "names") _ _ _ e refl)
fields_one (field.Info a) g h k e = absurd (distinct (codes "info") _ _ _ e refl)
fields_one (field.SelfW a m) g h k e = absurd (distinct (codes "self") _ _ _ e refl)
fields_one (field.Other a m) g h k e = absurd (distinct (codes "other") _ _ _ e refl)

pub server_one : (j k : ℕ) → j < 2 ^ 8 → k < 2 ^ 8 → server_word j ≡ server_word k → j ≡ k
server_one j k h f e = let t1 : decimal j ≡ decimal k = cc in decimal_injective j k (omega (arith, h)) (omega (arith, f)) t1

not_next : (n : ℕ) → n < 2 ^ 64 → packet_word (Some n) ≡ packet_word None → ⊥
not_next n h e =
    let t1 : decimal n ≡ codes "next" = cc in
    let lacks : Lacks 110 (codes "next") = subst (Lacks 110) t1 (no_letter 110 n (omega arith) h) in
    no_reap (sym lacks.0)

pub packet_one : (a b : Option ℕ) → IfSome a (λ n. n < 2 ^ 64) → IfSome b (λ n. n < 2 ^ 64) → packet_word a ≡ packet_word b → a ≡ b
packet_one (Some m) (Some n) h k e = let t1 : decimal m ≡ decimal n = cc in ap (λ (x : ℕ). Some x) (decimal_injective m n h k t1)
packet_one (Some m) None h k e = absurd (not_next m h e)
packet_one None (Some n) h k e = absurd (not_next n k (sym e))
packet_one None None h k e = refl
