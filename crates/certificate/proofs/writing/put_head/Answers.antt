use Rattle.certificate.proofs.Names.{◌∙◌, string_bytes, view}
use Rattle.certificate.specs.Views.{form_view}
use Rattle.certificate.specs.Writes.{IsHead}
use Rattle.certificate.proofs.Appended.{head_appended, head_long, head_written}
use Rattle.certificate.proofs.writing.put_head.Goals as goal

pub slice_bounds-extend_from_slice-count : goal.slice_bounds-extend_from_slice-count
slice_bounds-extend_from_slice-count c =
    let form = form_view c.args.form.now in
    let texts = c.args.texts.now in
    let h : IsHead (view c.in_ok-head.head) form texts = c.in_ok-head.ensures in
    let written = head_written form texts (view c.in_ok-head.head) (string_bytes c.in_ok-written.written) h.value c.in_ok-written.ensures.text in
    head_long form texts c.as_bytes-bytes.result.now (c.as_bytes-bytes.ensures.value ∙ c.as_str.ensures.value ∙ written)

pub returns : goal.returns
returns c =
    let form = form_view c.args.form.now in
    let texts = c.args.texts.now in
    let h : IsHead (view c.in_ok-head.head) form texts = c.in_ok-head.ensures in
    let written = head_written form texts (view c.in_ok-head.head) (string_bytes c.in_ok-written.written) h.value c.in_ok-written.ensures.text in
    record {
      text =
          head_appended form texts c.args.text.now.items c.extend_from_slice.new.self.items c.extend_from_slice-2.new.self.items c.as_bytes-bytes.result.now
          (c.as_bytes-bytes.ensures.value ∙ c.as_str.ensures.value ∙ written) c.in_ok-extend_from_slice.ensures.items c.in_ok-extend_from_slice-2.ensures.items;
      utf8 = h.utf8;
    }
