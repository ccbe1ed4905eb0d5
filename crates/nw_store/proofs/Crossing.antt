-- A closure's captures, or a tuple, may be sent to another thread if each part may be sent, and shared between threads if each part may
-- be shared.
-- `captures_send` and `captures_sync` find the parts by unification; `along_send` and `along_sync` take a proof for each part, in order.
use Rattle.nw_store.proofs.Words.{RattleType, IsSend, IsSync, declared_send, declared_sync}
use mathlib.Core.List.{List, [], ◌∷◌}
use Prim.Native.Nat.{ℕ}
use mir.Syntax.{Sym, Ty}
use denote.Exit.{no}
use denote.Param.{param, arg}
use denote.Struct.Tuple.{type_at, TupleAt}
use denote.Struct.Tuple as tuple
use denote.Struct.Field.{row_field}
use denote.Param.Send.{AllSend, AllSync, param_send, param_sync, arg_send, arg_sync}
use denote.Param.SendFields.{FieldsHave, as_row_send, as_row_sync}

parts_send : (Ts : List RattleType) → AllSend Ts → FieldsHave IsSend (tuple.parts Ts)
parts_send [] s = tt
parts_send (T ∷ Ts) s = (as_row_send (row_field T) s.0, parts_send Ts s.1)

parts_sync : (Ts : List RattleType) → AllSync Ts → FieldsHave IsSync (tuple.parts Ts)
parts_sync [] s = tt
parts_sync (T ∷ Ts) s = (as_row_sync (row_field T) s.0, parts_sync Ts s.1)

module _ (i : ℕ) (δ : Ty) (ν : Sym) (Ts : List RattleType) where
  pub captures_send : AllSend Ts → IsSend (param i (arg δ no (TupleAt ν Ts)))
  captures_send s = param_send i (arg δ no (TupleAt ν Ts)) (arg_send δ no (TupleAt ν Ts) (declared_send (type_at ν Ts) (parts_send Ts s)))

  pub captures_sync : AllSync Ts → IsSync (param i (arg δ no (TupleAt ν Ts)))
  captures_sync s = param_sync i (arg δ no (TupleAt ν Ts)) (arg_sync δ no (TupleAt ν Ts) (declared_sync (type_at ν Ts) (parts_sync Ts s)))

-- values of each type may be sent; values of each type may be shared
pub data Sends : List RattleType → Type 1 where
  none : Sends []
  also : (T : RattleType) (Ts : List RattleType) → IsSend T → Sends Ts → Sends (T ∷ Ts)

pub data Syncs : List RattleType → Type 1 where
  none : Syncs []
  also : (T : RattleType) (Ts : List RattleType) → IsSync T → Syncs Ts → Syncs (T ∷ Ts)

all_send : (Ts : List RattleType) → Sends Ts → AllSend Ts
all_send [] none = tt
all_send (T ∷ Ts) (also _ _ s ss) = (s, all_send Ts ss)

all_sync : (Ts : List RattleType) → Syncs Ts → AllSync Ts
all_sync [] none = tt
all_sync (T ∷ Ts) (also _ _ s ss) = (s, all_sync Ts ss)

pub along_send : (i : ℕ) (δ : Ty) (ν : Sym) (Ts : List RattleType) → Sends Ts → IsSend (param i (arg δ no (TupleAt ν Ts)))
along_send i δ ν Ts s = captures_send i δ ν Ts (all_send Ts s)

pub along_sync : (i : ℕ) (δ : Ty) (ν : Sym) (Ts : List RattleType) → Syncs Ts → IsSync (param i (arg δ no (TupleAt ν Ts)))
along_sync i δ ν Ts s = captures_sync i δ ν Ts (all_sync Ts s)
