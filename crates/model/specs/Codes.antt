-- Reply codes and their texts. Source: AMQP 0-9-1, section 1.1, "reply-code"; the texts are our own choice: each code's name.
use Rattle.std.specs.Prelude.{ℕ, ◌==◌, if◌then◌else◌, codes}
use Rattle.model.specs.Words.{Text}

-- The text that is sent with a reply code; internal-error for 541 and for any code that is not listed.
abbrev pub code_text : ℕ → Text
code_text code =
    if code == 311 then codes "content-too-large"
    else if code == 312 then codes "no-route"
    else if code == 403 then codes "access-refused"
    else if code == 404 then codes "not-found"
    else if code == 406 then codes "precondition-failed"
    else if code == 501 then codes "frame-error"
    else if code == 502 then codes "syntax-error"
    else if code == 503 then codes "command-invalid"
    else if code == 504 then codes "channel-error"
    else if code == 505 then codes "unexpected-frame"
    else if code == 506 then codes "resource-error"
    else if code == 530 then codes "not-allowed"
    else if code == 540 then codes "not-implemented"
    else codes "internal-error"
