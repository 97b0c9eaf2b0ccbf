-- What an effect leaves as it is.
use Rattle.std.proofs.Common.{◌≡◌, ℕ, ◌==◌, ◌&&◌, Bool, false, List, [], refl, ap, cond}
use Rattle.std.specs.Prelude.{Option, Some, None, is_some}
use Rattle.fs_ident.specs.declared.kind.Kind.{Kind}
use Rattle.fs_ident.specs.declared.actor.Session.{Session}
use Rattle.fs_field.specs.declared.field.Field.{Field}
use Rattle.fs_field.specs.declared.field.Field.TheVariants.{Life, Child, Names, Info, Own}
use Rattle.fs_field.specs.declared.value.Value.{Value}
use Rattle.fs_field.specs.declared.value.Value.TheVariants as value
use Rattle.fs_field.specs.declared.effect.Effect.{Effect}
use Rattle.fs_field.specs.declared.effect.Effect.TheVariants.{SetChild, SetParent, NewNode, RemoveNode, AddHandle, RemoveHandle, SetInfo}
use Rattle.fs_ident.specs.Ident.{same}
use Rattle.fs_field.specs.Value.{is_value_of}
use Rattle.fs_field.specs.After.{touches, value_after, life_after, child_after, names_after, info_after, own_after, info_value, with_name, without_name, with_handle, without_handle, Handles}

-- where a test fails, its else stands
otherwise : {X : Type 0} (b : Bool) (x y : X) → b ≡ false → cond b x y ≡ y
otherwise b x y h = ap (λ c. cond c x y) h

unless_both : {X : Type 0} (b c : Bool) (x y : X) → b ≡ false → cond (b && c) x y ≡ y
unless_both b c x y h = ap (λ d. cond (d && c) x y) h

life_stays : (f : List ℕ) (life : Option Kind) (e : Effect) → touches e (Life f) ≡ false → life_after f life e ≡ life
life_stays f life (SetChild dir name to) h = refl
life_stays f life (SetParent file dir name) h = refl
life_stays f life (NewNode file kind dir name) h = otherwise (same f file) (Some kind) life h
life_stays f life (RemoveNode file) h = otherwise (same f file) None life h
life_stays f life (AddHandle file session k modes) h = refl
life_stays f life (RemoveHandle file session k) h = refl
life_stays f life (SetInfo file size stamp) h = refl

child_stays : (d n : List ℕ) (child : Option (List ℕ)) (e : Effect) → touches e (Child d n) ≡ false → child_after d n child e ≡ child
child_stays d n child (SetChild dir name to) h = otherwise (same d dir && same n name) to child h
child_stays d n child (SetParent file dir name) h = refl
child_stays d n child (NewNode file kind dir name) h = otherwise (same d file) None child h
child_stays d n child (RemoveNode file) h = otherwise (same d file) None child h
child_stays d n child (AddHandle file session k modes) h = refl
child_stays d n child (RemoveHandle file session k) h = refl
child_stays d n child (SetInfo file size stamp) h = refl

names_stay : (d : List ℕ) (names : List (List ℕ)) (e : Effect) → touches e (Names d) ≡ false → names_after d names e ≡ names
names_stay d names (SetChild dir name to) h = otherwise (same d dir) (cond (is_some to) (with_name names name) (without_name names name)) names h
names_stay d names (SetParent file dir name) h = refl
names_stay d names (NewNode file kind dir name) h = otherwise (same d file) [] names h
names_stay d names (RemoveNode file) h = otherwise (same d file) [] names h
names_stay d names (AddHandle file session k modes) h = refl
names_stay d names (RemoveHandle file session k) h = refl
names_stay d names (SetInfo file size stamp) h = refl

info_stays : (f : List ℕ) (info : ℕ × ℕ) (e : Effect) → touches e (Info f) ≡ false → info_after f info e ≡ info
info_stays f info (SetChild dir name to) h = refl
info_stays f info (SetParent file dir name) h = refl
info_stays f info (NewNode file kind dir name) h = otherwise (same f file) (0, 0) info h
info_stays f info (RemoveNode file) h = otherwise (same f file) (0, 0) info h
info_stays f info (AddHandle file session k modes) h = refl
info_stays f info (RemoveHandle file session k) h = refl
info_stays f info (SetInfo file size stamp) h = otherwise (same f file) (size, stamp) info h

own_stays : (s : Session) (f : List ℕ) (own : Handles) (e : Effect) → touches e (Own f) ≡ false → own_after s f own e ≡ own
own_stays s f own (SetChild dir name to) h = refl
own_stays s f own (SetParent file dir name) h = refl
own_stays s f own (NewNode file kind dir name) h = otherwise (same f file) [] own h
own_stays s f own (RemoveNode file) h = otherwise (same f file) [] own h
own_stays s f own (AddHandle file session k modes) h = unless_both (same f file) (session.0 == s.0) (with_handle own k modes) own h
own_stays s f own (RemoveHandle file session k) h = unless_both (same f file) (session.0 == s.0) (without_handle own k) own h
own_stays s f own (SetInfo file size stamp) h = refl

pub value_stays : (s : Session) (field : Field) (v : Value) (e : Effect) → touches e field ≡ false → value_after s field v e ≡ v
value_stays s (Life f) (value.Life life) e h = ap value.Life (life_stays f life e h)
value_stays s (Child d n) (value.Child child) e h = ap value.Child (child_stays d n child e h)
value_stays s (Names d) (value.Names names) e h = ap value.Names (names_stay d names e h)
value_stays s (Info f) (value.Info size stamp) e h = ap info_value (info_stays f (size, stamp) e h)
value_stays s (Own f) (value.Own own) e h = ap value.Own (own_stays s f own e h)
value_stays s field v e h = refl

pub same_variant : (s : Session) (field : Field) (v : Value) (e : Effect) → is_value_of field (value_after s field v e) ≡ is_value_of field v
same_variant s (Life f) (value.Life life) e = refl
same_variant s (Child d n) (value.Child child) e = refl
same_variant s (Names d) (value.Names names) e = refl
same_variant s (Info f) (value.Info size stamp) e = refl
same_variant s (Own f) (value.Own own) e = refl
same_variant s field v e = refl
