-- How each value is read.
use Rattle.std.specs.Prelude.{ℕ, zero, suc, ◌+◌, ◌-◌, ◌*◌, ◌/◌, ◌%◌, ◌^◌, Bool, false, not, ◌&&◌, List, length, take, drop, Option, Some, None, Result, Ok, Err, nat_lt, nat_le, ◌==◌, if◌then◌else◌}
use Rattle.fs_ident.specs.Name.{first_bad, is_dots}
use Rattle.fs_ident.specs.Packed.{bits_of}
use Rattle.fs_ident.specs.declared.actor.LeaseNo.{LeaseNo}
use Rattle.fs_ident.specs.declared.actor.TxnNo.{TxnNo}
use Rattle.fs_ident.specs.declared.actor.PathNo.{PathNo}
use Rattle.fs_ident.specs.declared.actor.Session.{Session}
use Rattle.fs_ident.specs.declared.limits.TheConstants.{SESSIONS}
use Rattle.fs_ident.specs.declared.kind.Kind.{Kind}
use Rattle.fs_ident.specs.declared.kind.Kind.TheVariants.{File, Dir}
use Rattle.fs_modes.specs.declared.modes.Modes.{Modes}
use Rattle.fs_modes.specs.declared.modes.Mode.{Mode}
use Rattle.fs_modes.specs.declared.modes.Mode.TheVariants.{AccR, AccW, AccD, DenyR, DenyW, DenyD}
use Rattle.fs_field.specs.declared.field.Field.{Field}
use Rattle.fs_field.specs.declared.field.Field.TheVariants as field_
use Rattle.fs_field.specs.declared.value.Value.{Value}
use Rattle.fs_field.specs.declared.value.Value.TheVariants as value_
use Rattle.fs_field.specs.declared.lease_kind.LeaseKind.{LeaseKind}
use Rattle.fs_field.specs.declared.lease_kind.LeaseKind.TheVariants.{Shared, Exclusive}
use Rattle.fs_field.specs.declared.used.Use.{Use}
use Rattle.fs_field.specs.declared.row.Row.{Row}
use Rattle.fs_field.specs.declared.effect.Effect.{Effect}
use Rattle.fs_field.specs.declared.effect.Effect.TheVariants as effect_
use Rattle.fs_field.specs.declared.used.Part.{Part}
use Rattle.fs_field.specs.declared.vote.Vote.{Vote}
use Rattle.fs_field.specs.declared.vote.Vote.TheVariants as vote_
use Rattle.fs_model.specs.declared.node.Handle.{Handle}
use Rattle.fs_model.specs.declared.node.Node.{Node}
use Rattle.fs_model.specs.declared.op.Op.{Op}
use Rattle.fs_model.specs.declared.op.Op.TheVariants as op_
use Rattle.fs_model.specs.declared.reply.Reply.{Reply}
use Rattle.fs_model.specs.declared.reply.Reply.TheVariants as reply_
use Rattle.fs_wire.specs.declared.fault.Fault.{Fault}
use Rattle.fs_wire.specs.Codes.{identifier_in}
use Rattle.fs_wire.specs.Readers.{Reader, stop, then_at, map_at, always_at, either_at, pair_at, one_at, byte_at, choice_at, tag_at, four_at, eight_at, list_at, option_at, truth_at}

-- ---- kinds and modes

abbrev pub kind_of : ℕ → Kind
kind_of flag = if flag == 0 then File else Dir

unfoldable pub kind_at : Reader Kind
kind_at bytes = map_at kind_of (choice_at 2) bytes

abbrev pub lease_kind_of : ℕ → LeaseKind
lease_kind_of flag = if flag == 0 then Shared else Exclusive

unfoldable pub lease_kind_at : Reader LeaseKind
lease_kind_at bytes = map_at lease_kind_of (choice_at 2) bytes

abbrev pub mode_of : ℕ → Mode
mode_of place =
    if place == 0 then AccR else if place == 1 then AccW else if place == 2 then AccD
    else if place == 3 then DenyR else if place == 4 then DenyW else DenyD

unfoldable pub mode_at : Reader Mode
mode_at bytes = map_at mode_of (choice_at 6) bytes

-- six bits, with an access among the low three
abbrev pub is_modes_byte : ℕ → Bool
is_modes_byte b = nat_lt b 64 && not (b % 8 == 0)

abbrev pub modes_of : ℕ → Modes
modes_of b = record {
  acc_r = b % 2 == 1;
  acc_w = (b / 2) % 2 == 1;
  acc_d = (b / 4) % 2 == 1;
  deny_r = (b / 8) % 2 == 1;
  deny_w = (b / 16) % 2 == 1;
  deny_d = (b / 32) % 2 == 1;
}

unfoldable pub modes_at : Reader Modes
modes_at bytes = map_at modes_of (one_at false is_modes_byte) bytes

-- ---- who, and which

-- whether the two bytes are the number of a session
abbrev pub is_session : ℕ → ℕ → Bool
is_session high low = nat_le 1 (high * 256 + low) && nat_le (high * 256 + low) SESSIONS

abbrev pub session_of : ℕ → ℕ → Session
session_of high low = record { 0 = high * 256 + low }

unfoldable pub session_at : Reader Session
session_at bytes = then_at (choice_at 4) (λ high. map_at (session_of high) (one_at false (is_session high))) bytes

-- a number that is not 0, as a whole: its last byte is not 0 where the three before are
abbrev pub unless_zero : ℕ → List ℕ → Result (ℕ × List ℕ) Fault
unless_zero zero rest = stop false (1 + length rest)
unless_zero (suc n) rest = Ok (suc n, rest)

unfoldable pub positive_at : Reader ℕ
positive_at bytes = then_at four_at unless_zero bytes

-- an identifier that is read from bits; where it goes wrong, reading stops before the byte that holds the bit
abbrev pub identifier_of : Result (List ℕ × ℕ) ℕ → Reader (List ℕ)
identifier_of (Ok x) bytes = Ok (x.0, drop x.1 bytes)
identifier_of (Err at) bytes = stop false (length bytes - at / 8)

unfoldable pub identifier_at : Reader (List ℕ)
identifier_at bytes = identifier_of (identifier_in (bits_of bytes)) bytes

-- three bytes that are 0
unfoldable pub zeros_at : Reader ℕ
zeros_at bytes = then_at (choice_at 1) (λ a. then_at (choice_at 1) (λ b. choice_at 1)) bytes

-- what stands behind the first four bytes of a next number: behind a 0 a number that is not 0, behind a 1 nothing but 0
abbrev pub next_of : ℕ → Reader ℕ
next_of flag = either_at (flag == 0) positive_at (map_at (λ z. 2 ^ 32) (then_at (choice_at 1) (λ a. zeros_at)))

-- a number of eight bytes from 1 to 2^32: it goes wrong at the first byte after which it cannot be one
unfoldable pub next_at : Reader ℕ
next_at bytes = then_at zeros_at (λ z. then_at (choice_at 2) next_of) bytes

-- so many bytes of a name: a byte goes wrong that no name holds, and the last one of dots alone
abbrev pub chars_of : ℕ → List ℕ → Option ℕ → Result (List ℕ × List ℕ) Fault
chars_of n bytes (Some at) = stop false (length bytes - at)
chars_of n bytes None =
    if nat_lt (length bytes) n then stop false 0 else if is_dots (take n bytes) then stop false (1 + length (drop n bytes))
    else Ok (take n bytes, drop n bytes)

unfoldable pub chars_at : ℕ → Reader (List ℕ)
chars_at n bytes = chars_of n bytes (first_bad (take n bytes))

unfoldable pub name_at : Reader (List ℕ)
name_at bytes = then_at (one_at false (λ b. nat_le 1 b)) chars_at bytes

unfoldable pub lease_at : Reader LeaseNo
lease_at bytes = map_at (λ x. record { server = x.0; count = x.1 }) (pair_at byte_at eight_at) bytes

unfoldable pub transaction_at : Reader TxnNo
transaction_at bytes = map_at (λ x. record { server = x.0; count = x.1 }) (pair_at byte_at eight_at) bytes

unfoldable pub path_lease_at : Reader PathNo
path_lease_at bytes = map_at (λ x. record { server = x.0; count = x.1 }) (pair_at byte_at eight_at) bytes

-- ---- fields and values

abbrev pub field_of : ℕ → Reader Field
field_of tag =
    either_at (tag == 0) (map_at (λ x. field_.Life x) identifier_at) (
    either_at (tag == 1) (map_at (λ x. field_.Child x.0 x.1) (pair_at identifier_at name_at)) (
    either_at (tag == 2) (map_at (λ x. field_.Names x) identifier_at) (
    either_at (tag == 3) (map_at (λ x. field_.Info x) identifier_at) (
    either_at (tag == 4) (map_at (λ x. field_.Own x) identifier_at) (
    either_at (tag == 5) (map_at (λ x. field_.SelfW x.0 x.1) (pair_at identifier_at mode_at)) (
    map_at (λ x. field_.Other x.0 x.1) (pair_at identifier_at mode_at)))))))

unfoldable pub field_at : Reader Field
field_at bytes = then_at (tag_at 7) field_of bytes

abbrev pub value_of : ℕ → Reader Value
value_of tag =
    either_at (tag == 0) (map_at (λ x. value_.Life x) (option_at kind_at)) (
    either_at (tag == 1) (map_at (λ x. value_.Child x) (option_at identifier_at)) (
    either_at (tag == 2) (map_at (λ x. value_.Names x) (list_at name_at)) (
    either_at (tag == 3) (map_at (λ x. value_.Info x.0 x.1) (pair_at eight_at eight_at)) (
    either_at (tag == 4) (map_at (λ x. value_.Own x) (list_at (pair_at four_at modes_at))) (
    either_at (tag == 5) (always_at value_.SelfW) (
    map_at (λ x. value_.Other x) truth_at))))))

unfoldable pub value_at : Reader Value
value_at bytes = then_at (tag_at 7) value_of bytes

unfoldable pub lease_use_at : Reader Use
lease_use_at bytes = map_at (λ x. record { field = x.0; kind = x.1.0; no = x.1.1.0; until = x.1.1.1 })
    (pair_at field_at (pair_at lease_kind_at (pair_at lease_at eight_at))) bytes

unfoldable pub row_at : Reader Row
row_at bytes = map_at
    (λ x. record {
      no = x.0;
      session = x.1.0;
      field = x.1.1.0;
      kind = x.1.1.1.0;
      until = x.1.1.1.1.0;
      promise = x.1.1.1.1.1.0;
      lock = x.1.1.1.1.1.1;
    })
    (pair_at lease_at (pair_at session_at
    (pair_at field_at (pair_at lease_kind_at (pair_at eight_at (pair_at (option_at truth_at) (option_at transaction_at))))))) bytes

-- ---- nodes

unfoldable pub handle_at : Reader Handle
handle_at bytes = map_at (λ x. record { session = x.0; h = x.1.0; modes = x.1.1 }) (pair_at session_at (pair_at four_at modes_at)) bytes

unfoldable pub node_at : Reader Node
node_at bytes = map_at
    (λ x. record { kind = x.0; parent = x.1.0; children = x.1.1.0; size = x.1.1.1.0; stamp = x.1.1.1.1.0; handles = x.1.1.1.1.1 })
    (pair_at kind_at (pair_at (option_at (pair_at identifier_at name_at))
    (pair_at (list_at (pair_at name_at identifier_at)) (pair_at eight_at (pair_at eight_at (list_at handle_at)))))) bytes

-- ---- operations and replies

-- the operations of the tags from 0 to 3
abbrev pub lookup_to_info_of : ℕ → Reader Op
lookup_to_info_of tag =
    either_at (tag == 0) (map_at (λ x. op_.Lookup x.0 x.1) (pair_at identifier_at name_at)) (
    either_at (tag == 1) (map_at (λ x. op_.List x) identifier_at) (
    either_at (tag == 2) (map_at (λ x. op_.Kind x) identifier_at) (
    map_at (λ x. op_.Info x) identifier_at)))

-- the operations of the tags from 4 to 7
abbrev pub create_to_set_of : ℕ → Reader Op
create_to_set_of tag =
    either_at (tag == 4) (map_at (λ x. op_.Create x.0 x.1.0 x.1.1.0 x.1.1.1)
    (pair_at identifier_at (pair_at name_at (pair_at kind_at (option_at identifier_at))))) (
    either_at (tag == 5) (map_at (λ x. op_.OpenFile x.0 x.1.0 x.1.1) (pair_at identifier_at (pair_at four_at modes_at))) (
    either_at (tag == 6) (map_at (λ x. op_.Close x.0 x.1) (pair_at identifier_at four_at)) (
    map_at (λ x. op_.Set x.0 x.1.0 x.1.1.0 x.1.1.1) (pair_at identifier_at (pair_at four_at (pair_at eight_at eight_at))))))

-- the operations of the tags from 8 on
abbrev pub delete_to_reap_of : ℕ → Reader Op
delete_to_reap_of tag =
    either_at (tag == 8) (map_at (λ x. op_.Delete x.0 x.1) (pair_at identifier_at name_at)) (
    either_at (tag == 9) (map_at (λ x. op_.Rename x.0 x.1.0 x.1.1.0 x.1.1.1)
    (pair_at identifier_at (pair_at name_at (pair_at identifier_at name_at)))) (
    map_at (λ x. op_.Reap x.0 x.1) (pair_at identifier_at session_at)))

abbrev pub op_of : ℕ → Reader Op
op_of tag = either_at (nat_lt tag 4) (lookup_to_info_of tag) (either_at (nat_lt tag 8) (create_to_set_of tag) (delete_to_reap_of tag))

unfoldable pub op_at : Reader Op
op_at bytes = then_at (tag_at 11) op_of bytes

-- the replies of the tags from 0 to 9
abbrev pub gone_to_info_of : ℕ → Reader Reply
gone_to_info_of tag =
    either_at (tag == 0) (always_at reply_.Gone) (
    either_at (tag == 1) (always_at reply_.NotDir) (
    either_at (tag == 2) (always_at reply_.GoneTo) (
    either_at (tag == 3) (always_at reply_.NotDirTo) (
    either_at (tag == 4) (always_at reply_.NoName) (
    either_at (tag == 5) (map_at (λ x. reply_.Found x) identifier_at) (
    either_at (tag == 6) (map_at (λ x. reply_.Names x) (list_at name_at)) (
    either_at (tag == 7) (always_at reply_.IsFile) (
    either_at (tag == 8) (always_at reply_.IsDir) (
    map_at (λ x. reply_.Info x.0 x.1) (pair_at eight_at eight_at))))))))))

-- the replies of the tags from 10 on
abbrev pub exists_to_reaped_of : ℕ → Reader Reply
exists_to_reaped_of tag =
    either_at (tag == 10) (always_at reply_.Exists) (
    either_at (tag == 11) (always_at reply_.BadId) (
    either_at (tag == 12) (always_at reply_.Made) (
    either_at (tag == 13) (always_at reply_.HandleUsed) (
    either_at (tag == 14) (always_at reply_.Sharing) (
    either_at (tag == 15) (always_at reply_.Opened) (
    either_at (tag == 16) (always_at reply_.NoHandle) (
    either_at (tag == 17) (always_at reply_.Closed) (
    either_at (tag == 18) (always_at reply_.NoAccess) (
    either_at (tag == 19) (always_at reply_.Set) (
    either_at (tag == 20) (always_at reply_.NotEmpty) (
    either_at (tag == 21) (always_at reply_.InUse) (
    either_at (tag == 22) (always_at reply_.Deleted) (
    either_at (tag == 23) (always_at reply_.Cycle) (
    either_at (tag == 24) (always_at reply_.Renamed) (
    always_at reply_.Reaped)))))))))))))))

abbrev pub reply_of : ℕ → Reader Reply
reply_of tag = either_at (nat_lt tag 10) (gone_to_info_of tag) (exists_to_reaped_of tag)

unfoldable pub reply_at : Reader Reply
reply_at bytes = then_at (tag_at 26) reply_of bytes

-- ---- led operations

-- the effects of the tags from 0 to 3
abbrev pub set_child_to_remove_node_of : ℕ → Reader Effect
set_child_to_remove_node_of tag =
    either_at (tag == 0) (map_at (λ x. effect_.SetChild x.0 x.1.0 x.1.1)
    (pair_at identifier_at (pair_at name_at (option_at identifier_at)))) (
    either_at (tag == 1) (map_at (λ x. effect_.SetParent x.0 x.1.0 x.1.1) (pair_at identifier_at (pair_at identifier_at name_at))) (
    either_at (tag == 2) (map_at (λ x. effect_.NewNode x.0 x.1.0 x.1.1.0 x.1.1.1)
    (pair_at identifier_at (pair_at kind_at (pair_at identifier_at name_at)))) (
    map_at (λ x. effect_.RemoveNode x) identifier_at)))

-- the effects of the tags from 4 on
abbrev pub add_handle_to_set_info_of : ℕ → Reader Effect
add_handle_to_set_info_of tag =
    either_at (tag == 4) (map_at (λ x. effect_.AddHandle x.0 x.1.0 x.1.1.0 x.1.1.1)
    (pair_at identifier_at (pair_at session_at (pair_at four_at modes_at)))) (
    either_at (tag == 5) (map_at (λ x. effect_.RemoveHandle x.0 x.1.0 x.1.1) (pair_at identifier_at (pair_at session_at four_at))) (
    map_at (λ x. effect_.SetInfo x.0 x.1.0 x.1.1) (pair_at identifier_at (pair_at eight_at eight_at))))

abbrev pub effect_of : ℕ → Reader Effect
effect_of tag = either_at (nat_lt tag 4) (set_child_to_remove_node_of tag) (add_handle_to_set_info_of tag)

unfoldable pub effect_at : Reader Effect
effect_at bytes = then_at (tag_at 7) effect_of bytes

unfoldable pub part_at : Reader Part
part_at bytes = map_at (λ x. record { file = x.0; uses = x.1.0; freeze = x.1.1 })
    (pair_at identifier_at (pair_at (list_at lease_use_at) (option_at identifier_at))) bytes

abbrev pub vote_of : ℕ → Reader Vote
vote_of tag =
    either_at (tag == 0) (always_at vote_.Yes) (
    either_at (tag == 1) (map_at (λ x. vote_.Ended x.0 x.1.0 x.1.1) (pair_at lease_at (pair_at eight_at eight_at))) (
    either_at (tag == 2) (map_at (λ x. vote_.Moved x.0 x.1) (pair_at identifier_at byte_at)) (
    map_at (λ x. vote_.PathsOut x) path_lease_at)))

unfoldable pub vote_at : Reader Vote
vote_at bytes = then_at (tag_at 4) vote_of bytes
