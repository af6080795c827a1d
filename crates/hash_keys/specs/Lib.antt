mod Keys
