mod TrayAsDefined
mod ServesAsDefined
mod SessionExtends
