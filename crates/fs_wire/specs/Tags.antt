-- Where tags stand: for each byte of a spelling, whether a field, value, operation, reply, effect or vote begins there.
use Rattle.std.specs.Prelude.{ℕ, Bool, true, false, List, [], ◌∷◌, ◌++◌, length, map}
use Rattle.std.specs.List.{flat_map}
use Rattle.fs_field.specs.declared.used.Use.{Use}
use Rattle.fs_field.specs.declared.row.Row.{Row}
use Rattle.fs_field.specs.declared.used.Part.{Part}
use Rattle.fs_wire.specs.Spelling.{eight, truth, option, identifier, session, lease, transaction, lease_kind, field}

-- no byte is a tag
abbrev pub plain : List ℕ → List Bool
plain text = map (λ b. false) text

-- the first byte is a tag, and no other
abbrev pub one_tag : List ℕ → List Bool
one_tag [] = []
one_tag (b ∷ text) = true ∷ plain text

-- the count of a list, and each of its values
abbrev pub list_tags : {A : Type 0} → (A → List Bool) → List A → List Bool
list_tags tags xs = plain (eight (length xs)) ++ flat_map tags xs

unfoldable pub lease_use_tags : Use → List Bool
lease_use_tags u = one_tag (field u.field) ++ (plain (lease_kind u.kind) ++ (plain (lease u.no) ++ plain (eight u.until)))

unfoldable pub row_tags : Row → List Bool
row_tags r = plain (lease r.no)
    ++ (plain (session r.session)
    ++ (one_tag (field r.field)
    ++ (plain (lease_kind r.kind) ++ (plain (eight r.until) ++ (plain (option truth r.promise) ++ plain (option transaction r.lock))))))

-- of a part, the fields that it used have tags
unfoldable pub part_tags : Part → List Bool
part_tags p = plain (identifier p.file) ++ (list_tags lease_use_tags p.uses ++ plain (option identifier p.freeze))
