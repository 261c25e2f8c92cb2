-- An inquiry is what its setting makes.
use Rattle.std.proofs.Common.{◌≡◌, Some, Option, sym, refl, ap, subst}
use Rattle.std.proofs.Props.{props}
use Rattle.head.specs.declared.setting.Setting.{Setting}
use Rattle.rows.specs.declared.inquiry.Form.{Form}
use Rattle.rows.specs.declared.inquiry.Inquiry.{Inquiry}
use Rattle.rows.specs.Forms.{form_of}
use Rattle.rows.specs.Inquiries.{with_form, inquiry_of}

forms_set : IsSet (Option Form)
forms_set = hlevel props

pub some_inquiry : (s : Setting) (f : Form) (e : form_of s ≡ Some f) → Some (record { setting = s; form = f; fits = e }) ≡ inquiry_of s
some_inquiry s f e =
    let made : Inquiry = record { setting = s; form = f; fits = e } in
    let P : Option Form → Type 0 = λ x. (q : form_of s ≡ x) → Some made ≡ with_form s x q in
    subst P (sym e) (λ q. ap (λ (h : form_of s ≡ Some f). Some (record { setting = s; form = f; fits = h })) (forms_set _ _ e q)) refl
