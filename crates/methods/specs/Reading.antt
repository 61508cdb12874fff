-- What `read_method` must return. Source: AMQP 0-9-1, section 4.2.4, "Method Payloads", and its XML.
use Rattle.std.specs.Prelude.{◌≡◌, ◌≤◌, ℕ, List, ◌++◌, length, true, false, Option, Some, Result, Ok, Err, ⊤}
use Rattle.std.specs.Int.{w16, to_be_bytes}
use Rattle.std.specs.List.{AllByRecursion}
use Rattle.model.specs.Tables.{IsTable}
use Rattle.model.specs.Grammar.{Argument, ids, ids_of, arguments, class_at, method_at, is_known, is_left_out, is_unread, SaysMethod}
use Rattle.model.specs.declared.methods.Method.{Method}
use Rattle.field_table.specs.Arguments.{IsArgumentWhole, arguments_at}
use Rattle.methods.specs.declared.refusals.BadMethod.{BadMethod}
use Rattle.methods.specs.declared.refusals.BadMethod.TheVariants.{FrameError, SyntaxError, CommandInvalid, NotImplemented, Memory}
use Rattle.methods.specs.Kinds.{kinds_of}

-- ---- the result

-- the payload is refused by the reply code of this error; an allocation failure needs no reason
abbrev pub MethodIsRefused : List ℕ → BadMethod → Type 0
MethodIsRefused payload FrameError = SaysMethod payload (Err 501)
MethodIsRefused payload SyntaxError = SaysMethod payload (Err 502)
MethodIsRefused payload CommandInvalid = SaysMethod payload (Err 503)
MethodIsRefused payload NotImplemented = SaysMethod payload (Err 540)
MethodIsRefused payload Memory = ⊤

-- the result is correct for this payload
abbrev pub ReturnsMethod : List ℕ → Result Method BadMethod → Type 0
ReturnsMethod payload (Ok m) = SaysMethod payload (Ok m)
ReturnsMethod payload (Err e) = MethodIsRefused payload e

-- the result is the method `m`, or an allocation failed
abbrev pub IsMethodOr : Method → Result Method BadMethod → Type 0
IsMethodOr m (Ok n) = n ≡ m
IsMethodOr m (Err Memory) = ⊤
IsMethodOr m (Err FrameError) = ⊥
IsMethodOr m (Err SyntaxError) = ⊥
IsMethodOr m (Err CommandInvalid) = ⊥
IsMethodOr m (Err NotImplemented) = ⊥

-- ---- the steps

-- the payload begins with this class id and this method id, and `rest` is after them
pub record BeginsMethod (payload : List ℕ) (class method : ℕ) (rest : List ℕ) : Type 0 where
  pub long : 4 ≤ length payload
  pub class_is : class_at payload ≡ class
  pub method_is : method_at payload ≡ method
  pub parts : payload ≡ to_be_bytes w16 class ++ to_be_bytes w16 method ++ rest

-- the bytes of each table among the arguments are a table's pairs
abbrev pub AreWhole : List Argument → Type 0
AreWhole given = AllByRecursion IsArgumentWhole given

-- no arguments were read, or the bytes of a table among them are not a table's pairs
abbrev pub LacksArguments : Option (List Argument) → Type 0
LacksArguments read = (given : List Argument) → read ≡ Some given → AreWhole given → ⊥

-- the error is right: it is an allocation failure, or it is a syntax error and `pairs` are not a table's pairs
abbrev pub NoTable : List ℕ → BadMethod → Type 0
NoTable pairs FrameError = ⊥
NoTable pairs SyntaxError = IsTable pairs → ⊥
NoTable pairs CommandInvalid = ⊥
NoTable pairs NotImplemented = ⊥
NoTable pairs Memory = ⊤

-- the result is the table of these pairs, or a correct error
abbrev pub MakesTable : List ℕ → Result (List ℕ) BadMethod → Type 0
MakesTable pairs (Ok t) = (t ≡ pairs) × IsTable pairs
MakesTable pairs (Err e) = NoTable pairs e

-- `x` is a known method with these ids; its arguments are exactly what the bytes say, if the arguments of such a method are read
pub record IsRead (c m : ℕ) (bytes : List ℕ) (x : Method) : Type 0 where
  pub known : is_known c m ≡ true
  pub ids_are : ids_of x ≡ ids c m
  pub given : is_unread c m ≡ false → (arguments_at (kinds_of c m) bytes ≡ Some (arguments x)) × AreWhole (arguments x)

-- the method is known and its arguments are not left unread, but `bytes` are not arguments of such a method
pub record IsWithout (c m : ℕ) (bytes : List ℕ) : Type 0 where
  pub known : is_known c m ≡ true
  pub read : is_unread c m ≡ false
  pub lacks : LacksArguments (arguments_at (kinds_of c m) bytes)

-- the error is correct for these ids and argument bytes: unknown ids, a method not implemented, wrong arguments, or an allocation failure
abbrev pub FailsToRead : ℕ → ℕ → List ℕ → BadMethod → Type 0
FailsToRead c m bytes FrameError = ⊥
FailsToRead c m bytes SyntaxError = IsWithout c m bytes
FailsToRead c m bytes CommandInvalid = (is_known c m ≡ false) × (is_left_out c m ≡ false)
FailsToRead c m bytes NotImplemented = is_left_out c m ≡ true
FailsToRead c m bytes Memory = ⊤

-- the result is correct for these ids and argument bytes: the method, or an error with its reason
abbrev pub ReadsArguments : ℕ → ℕ → List ℕ → Result Method BadMethod → Type 0
ReadsArguments c m bytes (Ok x) = IsRead c m bytes x
ReadsArguments c m bytes (Err e) = FailsToRead c m bytes e
